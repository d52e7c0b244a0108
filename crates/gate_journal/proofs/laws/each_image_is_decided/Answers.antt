use Rattle.gate_journal.specs.Inner.Sides.{decided}
use Rattle.gate_journal.proofs.laws.each_image_is_decided.Goals as goal

pub returns : goal.returns
returns c = decided
