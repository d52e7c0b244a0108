use Rattle.std.proofs.Common.{◌≤◌, ◌-◌, length}
use Rattle.std.specs.Prelude.{slice_get}
use Rattle.object_index.specs.Inner.Tables.{IsBelow, IsNoLower}
use Rattle.object_index.proofs.halving.blocks_before.Given as goal

-- the place that parts the entries lies between the two bounds
abbrev pub invariant-loop-low : goal.invariant-loop-low
invariant-loop-low l = record {
  ordered : l.low ≤ l.high;
  within : l.high ≤ length l.blocks;
  before : 1 ≤ l.low → IsBelow (slice_get l.blocks (l.low - 1)) l.at;
  behind : IsNoLower (slice_get l.blocks l.high) l.at;
}

abbrev pub decreases-loop-low : goal.decreases-loop-low
decreases-loop-low l = l.high - l.low
