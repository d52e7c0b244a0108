use Rattle.accepted_changes.proofs.KeptLemmas.{acknowledged_is_kept}
use Rattle.accepted_changes.proofs.laws.what_was_acknowledged_is_kept.Goals as goal

pub returns : goal.returns
returns g c = acknowledged_is_kept g.A.Accepting.rules
