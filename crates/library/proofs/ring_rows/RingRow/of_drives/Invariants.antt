use Rattle.std.proofs.Common.{◌≡◌, ◌≤◌, take, vec_len, vec_capacity}
use Rattle.library.specs.Counts.{which_are_there}
use Rattle.library.proofs.ring_rows.RingRow.of_drives.Given as goal

-- the drives so far have their rings
abbrev pub invariant-loop-bay : goal.invariant-loop-bay
invariant-loop-bay g l = record {
  counted : vec_len l.rings ≡ l.bay-index;
  room : 16 ≤ vec_capacity l.rings;
  there : which_are_there l.rings.items ≡ which_are_there (take l.bay-index l.bays);
}
