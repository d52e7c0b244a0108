use Rattle.accepted_changes.proofs.BaseLemmas.{rebases_keep}
use Rattle.accepted_changes.proofs.laws.changes_of_base_keep_what_was_accepted.Goals as goal

pub returns : goal.returns
returns g c = rebases_keep g.A.Accepting.rules g.A.Accepting.device g.A.Accepting.is_device
