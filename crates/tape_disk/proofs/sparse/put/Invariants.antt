use Rattle.std.proofs.Common.{◌≡◌, ◌+◌, ◌<◌, ℕ, slice_index_or}
use Rattle.tape_disk.specs.SparseBytes.{byte_in, IsOutside}
use Rattle.tape_disk.proofs.sparse.put.Given as goal

abbrev pub invariant-loop-i : goal.invariant-loop-i
invariant-loop-i l =
    ((k other : ℕ) → k < l.i → byte_in l.written (l.at + k) ≡ slice_index_or l.bytes k other)
    × ((place : ℕ) → IsOutside l.at l.i place → byte_in l.written place ≡ byte_in l.initial.written place)
