use Rattle.std.proofs.Common.{◌≡◌, ◌≤◌, vec_len, vec_capacity}
use Rattle.vtl_wire.proofs.EntryReadLemmas.{AreEntriesTo}
use Rattle.vtl_wire.proofs.entry_readers.read_entries.Given as goal

-- the entries so far were read, and there is room for the others
abbrev pub invariant-loop-place : goal.invariant-loop-place
invariant-loop-place l = record {
  so : AreEntriesTo l.bytes l.place l.entries.items;
  count : vec_len l.entries ≡ l.place;
  room : vec_capacity l.fn.room ≤ vec_capacity l.entries;
}
