use Rattle.std.proofs.Common.{ℕ, List, ◌++◌, ◌-◌, ◌≤◌, length, take}
use Rattle.object_index.specs.Places.{PlacedPart}
use Rattle.cartridge.specs.Inner.Reading.{IsBodyWalked}
use Rattle.cartridge.proofs.walking.walk_piece.Given as goal

abbrev pub invariant-loop-from : goal.invariant-loop-from
invariant-loop-from l = record {
  within : l.from ≤ length l.piece;
  walked :
      (start : List PlacedPart) (so_far : List ℕ) → IsBodyWalked start l.place so_far l.fn.index l.fn.reader
      → IsBodyWalked start l.place (so_far ++ take l.from l.piece) l.index l.reader;
}

abbrev pub decreases-loop-from : goal.decreases-loop-from
decreases-loop-from l = length l.piece - l.from
