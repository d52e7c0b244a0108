-- The objects of a partition by two tables: of its blocks, and of its runs of filemarks.
use Rattle.std.specs.Prelude.{◌≡◌, ◌<◌, ◌≤◌, ◌+◌, ◌-◌, ◌^◌, ℕ, List, [], ◌∷◌, ◌++◌, length, take, replicate, sum_by, slice_get, Option, None, Some}
use Rattle.vtl_base.specs.declared.limits.TheConstants.{OBJECT_COST}
use Rattle.object_index.specs.declared.places.Placed.{Placed}
use Rattle.object_index.specs.declared.places.Placed.TheVariants.{Block, Mark}
use Rattle.change_records.specs.declared.records.Record.{Record}
use Rattle.object_index.specs.Places.{IsPlace, objects_of_run, placed_by, runs_of}
use Rattle.object_index.specs.MarkRuns.{AreRunsOf}
use Rattle.object_index.specs.declared.runs.MarkRun.{MarkRun}
use Rattle.object_index.specs.declared.tables.BlockEntry.{BlockEntry}
use Rattle.object_index.specs.declared.places.Run.{Run}

-- objects, followed by marks up to that number (own)
abbrev pub padded : List Placed → ℕ → List Placed
padded objects count = objects ++ replicate (count - length objects) Mark

-- objects, followed by marks and then the block of the entry at its number (own)
abbrev pub with_block : List Placed → BlockEntry → List Placed
with_block objects entry = padded objects entry.number ++ Block entry.place entry.size ∷ []

-- objects, followed by the blocks of the entries at their numbers, with marks between (own)
abbrev pub with_blocks : List Placed → List BlockEntry → List Placed
with_blocks objects [] = objects
with_blocks objects (entry ∷ entries) = with_blocks (with_block objects entry) entries

-- the objects up to the last block (own)
abbrev pub blocks_of : List BlockEntry → List Placed
blocks_of entries = with_blocks [] entries

-- the objects of a partition: its blocks at their numbers, and marks at all others (own)
abbrev pub objects_of : List BlockEntry → ℕ → List Placed
objects_of entries count = padded (blocks_of entries) count

-- what an object takes of the capacity: a block its bytes and 16, a mark 16 (own)
abbrev pub cost_of_placed : Placed → ℕ
cost_of_placed (Block place length) = length + OBJECT_COST
cost_of_placed Mark = OBJECT_COST

-- what objects take together (own)
abbrev pub cost_of_objects : List Placed → ℕ
cost_of_objects objects = sum_by cost_of_placed objects

-- The entry's block comes after these objects, at a number that fits. The entry has what the objects up to the block
-- take, with the block itself (own).
pub record IsBlockAfter (objects : List Placed) (entry : BlockEntry) : Type 0 where
  pub behind : length objects ≤ entry.number
  pub bound : entry.number + 1 < 2 ^ 32
  pub cost_is : entry.cost ≡ cost_of_objects (with_block objects entry)

-- each block comes after those before it (own)
abbrev pub IsTable : List BlockEntry → Type 0
IsTable entries =
    (k : ℕ) (entry : BlockEntry) → slice_get entries k ≡ Some entry → IsBlockAfter (blocks_of (take k entries)) entry

-- the two tables are of the same objects, `count` in all (own)
pub record AreTables (entries : List BlockEntry) (runs : List MarkRun) (count : ℕ) : Type 0 where
  pub table : IsTable entries
  pub within : length (blocks_of entries) ≤ count
  pub are_runs : AreRunsOf (objects_of entries count) runs
  pub cost : cost_of_objects (objects_of entries count) < 2 ^ 64

-- no entry, or one with a lower number (own)
abbrev pub IsBelow : Option BlockEntry → ℕ → Type 0
IsBelow None at = Unit {0}
IsBelow (Some entry) at = entry.number < at

-- no entry, or one whose number is not lower (own)
abbrev pub IsNoLower : Option BlockEntry → ℕ → Type 0
IsNoLower None at = Unit {0}
IsNoLower (Some entry) at = at ≤ entry.number

-- the last of the first `count` entries has a lower number, and the next one does not (own)
pub record IsSplitAt (entries : List BlockEntry) (at count : ℕ) : Type 0 where
  pub before : 1 ≤ count → IsBelow (slice_get entries (count - 1)) at
  pub behind : IsNoLower (slice_get entries count) at

-- the run that a record adds, with its block at that place; an erase adds none (own)
abbrev pub AddsRun : Record → ℕ → Option Run → Type 0
AddsRun item place None = (placed_by item place ≡ []) × (runs_of item ≡ 0)
AddsRun item place (Some run) =
    (placed_by item place ≡ objects_of_run run) × (runs_of item ≡ 1) × IsPlace run
