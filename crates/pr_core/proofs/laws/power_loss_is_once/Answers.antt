use Rattle.pr_core.proofs.LawLemmas.{loss_is_once, lost_alike}
use Rattle.pr_core.proofs.laws.power_loss_is_once.Goals as goal

pub returns-clause-once : goal.returns-clause-once
returns-clause-once c = loss_is_once

pub returns-clause-alike : goal.returns-clause-alike
returns-clause-alike c = lost_alike
