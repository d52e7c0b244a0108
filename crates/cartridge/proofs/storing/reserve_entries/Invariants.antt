use Rattle.std.proofs.Common.{ℕ, ◌<◌, ◌≤◌, sum_by}
use Rattle.object_index.specs.Places.{reserved_of}
use Rattle.cartridge.specs.Answers.{entries_of}
use Rattle.cartridge.specs.Inner.Growing.{IsGrown}
use Rattle.cartridge.proofs.storing.reserve_entries.Given as goal

abbrev pub invariant-loop-part : goal.invariant-loop-part
invariant-loop-part l = record {
  grown : IsGrown l.initial.index l.index;
  room : (p : ℕ) → p < l.part → sum_by (entries_of p) l.changes ≤ reserved_of l.index p;
}
