use Rattle.accepted_changes.proofs.ChainLemmas.{kept_stays_kept}
use Rattle.accepted_changes.proofs.laws.what_is_kept_stays_kept.Goals as goal

pub returns : goal.returns
returns g c = kept_stays_kept g.A.Accepting.rules
