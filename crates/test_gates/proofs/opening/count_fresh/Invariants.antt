use Rattle.test_gates.proofs.FreshLemmas.{AreFresh}
use Rattle.test_gates.proofs.opening.count_fresh.Given as goal

-- the drives so far
abbrev pub invariant-loop-bay : goal.invariant-loop-bay
invariant-loop-bay g l = AreFresh l.bays l.bay-index l.count
