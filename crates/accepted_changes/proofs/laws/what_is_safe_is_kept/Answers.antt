use Rattle.accepted_changes.proofs.KeptLemmas.{safe_is_kept}
use Rattle.accepted_changes.proofs.laws.what_is_safe_is_kept.Goals as goal

pub returns : goal.returns
returns g c = safe_is_kept g.A.Accepting.rules
