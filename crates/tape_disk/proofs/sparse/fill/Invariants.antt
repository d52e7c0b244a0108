use Rattle.std.proofs.Common.{◌≡◌, ◌+◌, ◌<◌, ℕ, length, slice_index_or}
use Rattle.tape_disk.specs.SparseBytes.{byte_in}
use Rattle.tape_disk.proofs.sparse.fill.Given as goal

abbrev pub invariant-loop-i : goal.invariant-loop-i
invariant-loop-i l = (length l.buffer ≡ length l.initial.buffer)
    × ((k other : ℕ) → k < l.i → slice_index_or l.buffer k other ≡ byte_in l.written (l.at + k))
