use Rattle.accepted_changes.proofs.BaseLemmas.{acknowledged_begins}
use Rattle.accepted_changes.proofs.laws.what_was_acknowledged_begins.Goals as goal

pub returns : goal.returns
returns g c = acknowledged_begins g.A.Accepting.rules
