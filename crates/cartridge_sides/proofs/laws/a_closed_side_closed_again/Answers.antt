use Rattle.cartridge_sides.proofs.HoleLemmas.{copy_comes_back}
use Rattle.cartridge_sides.proofs.laws.a_closed_side_closed_again.Goals as goal

pub returns : goal.returns
returns c = copy_comes_back
