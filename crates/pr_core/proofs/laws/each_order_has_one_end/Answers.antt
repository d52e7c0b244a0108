use Rattle.pr_core.proofs.LawLemmas.{an_end, one_end}
use Rattle.pr_core.proofs.laws.each_order_has_one_end.Goals as goal

pub returns-clause-some : goal.returns-clause-some
returns-clause-some c = an_end

pub returns-clause-one : goal.returns-clause-one
returns-clause-one c = one_end
