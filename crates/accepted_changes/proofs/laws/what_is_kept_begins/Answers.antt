use Rattle.accepted_changes.specs.Core.{kept_begins}
use Rattle.accepted_changes.proofs.laws.what_is_kept_begins.Goals as goal

pub returns : goal.returns
returns g c = kept_begins g.A.Accepting.rules
