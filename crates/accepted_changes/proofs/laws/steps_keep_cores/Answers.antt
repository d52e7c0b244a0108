use Rattle.accepted_changes.proofs.KeptLemmas.{keeps_core}
use Rattle.accepted_changes.proofs.laws.steps_keep_cores.Goals as goal

pub returns : goal.returns
returns g c = keeps_core g.A.Accepting.rules
