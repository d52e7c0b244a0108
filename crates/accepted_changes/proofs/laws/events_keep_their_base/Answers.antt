use Rattle.accepted_changes.proofs.BaseLemmas.{events_keep_base}
use Rattle.accepted_changes.proofs.laws.events_keep_their_base.Goals as goal

pub returns : goal.returns
returns g c = events_keep_base g.A.Accepting.rules g.A.Accepting.device
