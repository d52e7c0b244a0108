use Rattle.std.proofs.Common.{◌≤◌, ◌-◌, ◌+◌, ◌*◌, ◌^◌, length}
use Rattle.std.specs.Prelude.{slice_get}
use Rattle.object_index.specs.Inner.RunSearch.{IsLastBelow, IsNotBelow}
use Rattle.object_index.proofs.halving.runs_below.Given as goal

-- the place that parts the runs lies between the two bounds, and each step halves their distance
abbrev pub invariant-loop-from : goal.invariant-loop-from
invariant-loop-from l = record {
  ordered : l.from ≤ l.to;
  within : l.to ≤ length l.runs.runs;
  last : IsLastBelow l.runs.runs l.by l.bound l.from l.last;
  behind : IsNotBelow (slice_get l.runs.runs l.to) l.by l.bound;
  grows : l.initial.steps ≤ l.steps;
  narrows : 2 ^ (l.steps - l.initial.steps) * (l.to - l.from) ≤ length l.runs.runs;
  few : 2 ^ (l.steps - l.initial.steps) ≤ 2 * length l.runs.runs + 1;
}

abbrev pub decreases-loop-from : goal.decreases-loop-from
decreases-loop-from l = l.to - l.from
