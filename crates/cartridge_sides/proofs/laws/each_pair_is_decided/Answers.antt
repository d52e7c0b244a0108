use Rattle.cartridge_sides.specs.Inner.Decided.{decided}
use Rattle.cartridge_sides.proofs.laws.each_pair_is_decided.Goals as goal

pub returns : goal.returns
returns c = decided
