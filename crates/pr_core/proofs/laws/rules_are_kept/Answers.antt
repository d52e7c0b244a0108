use Rattle.pr_core.proofs.RuleLemmas.{empty_is_sound, loss_keeps, orders_keep}
use Rattle.pr_core.proofs.laws.rules_are_kept.Goals as goal

pub returns-clause-empty : goal.returns-clause-empty
returns-clause-empty c = empty_is_sound

pub returns-clause-orders : goal.returns-clause-orders
returns-clause-orders c = orders_keep

pub returns-clause-power_loss : goal.returns-clause-power_loss
returns-clause-power_loss c = loss_keeps
