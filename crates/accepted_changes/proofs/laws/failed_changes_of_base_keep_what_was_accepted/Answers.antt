use Rattle.accepted_changes.proofs.BaseLemmas.{failures_keep}
use Rattle.accepted_changes.proofs.laws.failed_changes_of_base_keep_what_was_accepted.Goals as goal

pub returns : goal.returns
returns g c = failures_keep g.A.Accepting.rules g.A.Accepting.device g.A.Accepting.is_device
