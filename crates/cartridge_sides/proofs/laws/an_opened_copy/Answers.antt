use Rattle.cartridge_sides.proofs.PassLemmas.{opened_counts}
use Rattle.cartridge_sides.proofs.laws.an_opened_copy.Goals as goal

pub returns : goal.returns
returns c = λ which h bodies copies counts spare stands paired copy written.
    opened_counts which h bodies copies counts spare stands paired copy written
