use Rattle.std.proofs.Common.{rules}
use Rattle.pr_core.proofs.states.PrState.others.Goals as goal

pub returns : goal.returns
returns c = c.row_of.ensures _ (λ other answer is post. search rules)
