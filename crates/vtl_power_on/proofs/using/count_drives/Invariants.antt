use Rattle.std.proofs.Common.{◌≡◌, ◌≤◌, sum_by, take}
use Rattle.library.specs.Counts.{one_if_there}
use Rattle.vtl_power_on.proofs.using.count_drives.Given as goal

-- so many of the drives so far are there
abbrev pub invariant-loop-bay : goal.invariant-loop-bay
invariant-loop-bay g l = record {
  counted : l.count ≡ sum_by one_if_there (take l.bay-index l.bays);
  few : l.count ≤ l.bay-index;
}
