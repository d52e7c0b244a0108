use Rattle.drive_theorems.proofs.StepLemmas.{step_where}
use Rattle.drive_theorems.proofs.laws.honest_steps.Goals as goal

pub returns : goal.returns
returns g c medium old event output made new honest step =
    step_where (Unit {0}) (g.M.Medium.below.honest medium) (λ u. honest) old event output made new step
