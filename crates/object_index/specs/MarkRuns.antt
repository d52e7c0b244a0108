-- Runs of filemarks among the objects of a partition.
use Rattle.std.specs.Prelude.{◌≡◌, ◌<◌, ◌≤◌, ◌+◌, ◌-◌, ℕ, min, List, length, take, count_by, slice_get, Option, None, Some, Bool, true, false}
use Rattle.vtl_base.specs.Steps.{AddsDigits}
use Rattle.object_index.specs.declared.places.Placed.{Placed}
use Rattle.object_index.specs.declared.places.Placed.TheVariants.{Block, Mark}
use Rattle.object_index.specs.declared.runs.MarkRun.{MarkRun}

-- runs of filemarks in order, and how many can be added without memory (own)
pub record RunRow : Type 0 where
  pub runs : List MarkRun
  pub free : ℕ

-- a filemark stands at a place (SSC-4, logical objects)
abbrev pub HasMarkAt : List Placed → ℕ → Type 0
HasMarkAt objects at = slice_get objects at ≡ Some Mark

-- an object is a filemark (SSC-4, logical objects)
abbrev pub is_placed_mark : Placed → Bool
is_placed_mark Mark = true
is_placed_mark (Block place size) = false

-- how many filemarks are among objects (own)
abbrev pub placed_marks : List Placed → ℕ
placed_marks objects = count_by is_placed_mark objects

-- a run of filemarks among the objects: each of its places has one, and `before` filemarks come before it (own)
pub record IsMarkRun (objects : List Placed) (run : MarkRun) : Type 0 where
  pub some : 1 ≤ run.count
  pub marks : (at : ℕ) → run.first ≤ at → at < run.first + run.count → HasMarkAt objects at
  pub before : run.before ≡ placed_marks (take run.first objects)

-- the runs of filemarks among the objects, in order: they have all filemarks, and none touches the next (own)
pub record AreRunsOf (objects : List Placed) (runs : List MarkRun) : Type 0 where
  pub each : (k : ℕ) (run : MarkRun) → slice_get runs k ≡ Some run → IsMarkRun objects run
  pub apart : (k n : ℕ) (run other : MarkRun) → k < n → slice_get runs k ≡ Some run → slice_get runs n ≡ Some other
      → run.first + run.count < other.first
  pub all : (at : ℕ) → HasMarkAt objects at
      → (k : ℕ) × (run : MarkRun) × (slice_get runs k ≡ Some run) × (run.first ≤ at) × (at < run.first + run.count)

-- one of the runs of filemarks among the objects, a whole one (own)
abbrev pub IsRunAmong : List Placed → MarkRun → Type 0
IsRunAmong objects run =
    (runs : List MarkRun) × AreRunsOf objects runs × (k : ℕ) × (slice_get runs k ≡ Some run)

-- The last run that begins before object number n; None where no filemark comes before it. The filemarks up to n are
-- those before the run, and those of the run up to n (own).
abbrev pub IsRunUpto : List Placed → ℕ → Option MarkRun → Type 0
IsRunUpto objects n None = placed_marks (take n objects) ≡ 0
IsRunUpto objects n (Some run) =
    IsRunAmong objects run × (run.first < n)
    × (placed_marks (take n objects) ≡ run.before + min run.count (n - run.first))

-- the run that has filemark number k, counted from 0; None where there are at most k filemarks (own)
abbrev pub IsRunWith : List Placed → ℕ → Option MarkRun → Type 0
IsRunWith objects k None = placed_marks objects ≤ k
IsRunWith objects k (Some run) = IsRunAmong objects run × (run.before ≤ k) × (k < run.before + run.count)

-- at most as many steps are added as the number of runs of filemarks has binary digits (own)
abbrev pub AddsDigitsOfRuns : List Placed → ℕ → ℕ → Type 0
AddsDigitsOfRuns objects old new = (runs : List MarkRun) × AreRunsOf objects runs × AddsDigits old new (length runs)
