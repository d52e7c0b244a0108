use Rattle.accepted_changes.proofs.DropLemmas.{calls_drop_nothing}
use Rattle.accepted_changes.proofs.laws.calls_drop_nothing.Goals as goal

pub returns : goal.returns
returns g c = calls_drop_nothing g.A.Accepting.rules g.A.Accepting.device
