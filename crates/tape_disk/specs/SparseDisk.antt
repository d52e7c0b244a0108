-- A disk that stores written bytes and has zeros elsewhere, as its contracts see it.
use Rattle.std.specs.Prelude.{◌≡◌, ℕ, ◌+◌, ◌<◌, ◌≤◌, List, [], length, max, min, slice_index_or, Result, Ok, Err, IsOk, OnErr}
use Rattle.vtl_base.specs.declared.faults.DevFault.{DevFault}
use Rattle.tape_disk.specs.Disk.{DiskCall, ReadAt, WriteAt, CutAt, SyncAll, DiskState}
use Rattle.tape_disk.specs.SparseBytes.{byte_in, IsOutside}
use Rattle.tape_disk.specs.declared.sparse.SparseDisk.{SparseDisk}

-- the byte that reads return at a place (own)
abbrev pub sparse_byte : SparseDisk → ℕ → ℕ
sparse_byte disk place = byte_in disk.written place

-- its length (own)
abbrev pub sparse_len : SparseDisk → ℕ
sparse_len disk = disk.len

-- how many of its calls have failed (own)
abbrev pub sparse_failures : SparseDisk → ℕ
sparse_failures disk = disk.failures.count.value

-- The disk is never honest, so nothing is said of images (own).
abbrev pub sparse_state : SparseDisk → DiskState
sparse_state disk = record {
  honest = ⊥;
  seen = [];
  may_leave = λ image. ⊥;
  moment = 0;
  left_since = λ t image. ⊥;
  failures = sparse_failures disk;
}

-- All bytes and the length stay (own).
pub record StaysSparse (old new : SparseDisk) : Type 0 where
  pub bytes : (place : ℕ) → sparse_byte new place ≡ sparse_byte old place
  pub len : sparse_len new ≡ sparse_len old

-- These bytes are there from the place on, and the others stay (own).
pub record WrittenSparse (at : ℕ) (bytes : List ℕ) (old new : SparseDisk) : Type 0 where
  pub there : (i other : ℕ) → i < length bytes → sparse_byte new (at + i) ≡ slice_index_or bytes i other
  pub elsewhere : (place : ℕ) → IsOutside at (length bytes) place → sparse_byte new place ≡ sparse_byte old place
  pub len : sparse_len new ≡ max (sparse_len old) (at + length bytes)

-- Zeros are there from the place on, and the bytes before it stay (own).
pub record CutSparse (at : ℕ) (old new : SparseDisk) : Type 0 where
  pub behind : (place : ℕ) → at ≤ place → sparse_byte new place ≡ 0
  pub before : (place : ℕ) → place < at → sparse_byte new place ≡ sparse_byte old place
  pub len : sparse_len new ≡ min (sparse_len old) at

-- What a call does to bytes and length. A read returns Ok exactly where it lies inside the disk. After a failed write
-- any part of it may be there (own).
abbrev pub MakesSparse : DiskCall → Result Unit DevFault → SparseDisk → SparseDisk → Type 0
MakesSparse (ReadAt at count) (Ok done) old new = (at + count ≤ sparse_len old) × StaysSparse old new
MakesSparse (ReadAt at count) (Err fault) old new = (sparse_len old < at + count) × StaysSparse old new
MakesSparse (WriteAt at bytes) (Ok done) old new = WrittenSparse at bytes old new
MakesSparse (WriteAt at bytes) (Err fault) old new = (sparse_len old ≤ sparse_len new)
    × ((place : ℕ) → IsOutside at (length bytes) place → sparse_byte new place ≡ sparse_byte old place)
MakesSparse (CutAt len) (Ok done) old new = CutSparse len old new
MakesSparse (CutAt len) (Err fault) old new = StaysSparse old new
MakesSparse SyncAll result old new = IsOk result × StaysSparse old new

-- What a call does, without facts about crashes: each call that fails adds one failure (own).
pub record SparseEffect (call : DiskCall) (result : Result Unit DevFault) (old new : SparseDisk) : Type 0 where
  pub made : MakesSparse call result old new
  pub counted : OnErr result (sparse_failures new ≡ sparse_failures old + 1)
