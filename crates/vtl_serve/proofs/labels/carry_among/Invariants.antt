use Rattle.vtl_serve.proofs.LabelLemmas.{AreCarried}
use Rattle.vtl_serve.proofs.labels.carry_among.Given as goal

-- the labels so far are carried, and the others as they were
abbrev pub invariant-loop-label : goal.invariant-loop-label
invariant-loop-label l = AreCarried l.from l.to l.fn.labels l.label-items l.label-index
