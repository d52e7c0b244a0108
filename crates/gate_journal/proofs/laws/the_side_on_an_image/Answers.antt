use Rattle.gate_journal.specs.SideOn.{side_on_is, side_on_stands}
use Rattle.gate_journal.proofs.laws.the_side_on_an_image.Goals as goal

pub returns : goal.returns
returns c = λ image h bs. (side_on_stands image h bs, side_on_is image h bs)
