use Rattle.std.proofs.Common.{ℕ, ◌<◌, ◌≤◌}
use Rattle.object_index.specs.Places.{reserved_of}
use Rattle.cartridge.specs.Inner.Growing.{IsGrown}
use Rattle.cartridge.proofs.reserving.reserve_each.Given as goal

abbrev pub invariant-loop-part : goal.invariant-loop-part
invariant-loop-part l = record {
  grown : IsGrown l.initial.index l.index;
  room : (p : ℕ) → p < l.part → l.entries ≤ reserved_of l.index p;
}
