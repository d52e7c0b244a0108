use Rattle.pr_core.proofs.SaveLemmas.{due_by_change}
use Rattle.pr_core.proofs.laws.saves_are_due_by_change.Goals as goal

pub returns : goal.returns
returns c = due_by_change
