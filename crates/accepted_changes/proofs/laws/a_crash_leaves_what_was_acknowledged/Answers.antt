use Rattle.accepted_changes.proofs.BaseLemmas.{crash_keeps}
use Rattle.accepted_changes.proofs.laws.a_crash_leaves_what_was_acknowledged.Goals as goal

pub returns : goal.returns
returns g c = crash_keeps g.A.Accepting.rules g.A.Accepting.device g.A.Accepting.is_device
