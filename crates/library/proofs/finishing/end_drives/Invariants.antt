use Rattle.std.proofs.Common.{◌≡◌, ◌≤◌, ◌++◌, length, drop, vec_len}
use Rattle.library.specs.Inner.Ending.{HaveEnded}
use Rattle.library.proofs.finishing.end_drives.Given as goal

-- the drives after those that are left have ended
abbrev pub invariant-loop-bay : goal.invariant-loop-bay
invariant-loop-bay g l = record {
  ended :
      HaveEnded g.D.Disk.state (drop (vec_len l.bays) l.fn.bays.items) (drop (vec_len l.bays) l.row) l.gathering.bays
      l.written;
  left : l.fn.bays.items ≡ l.bays.items ++ drop (vec_len l.bays) l.fn.bays.items;
  short : vec_len l.bays ≤ 16;
  long : length l.row ≡ 16;
  total : l.gathering.total ≡ l.fn.gathering.total;
  hosts : l.gathering.hosts ≡ l.fn.gathering.hosts;
}

abbrev pub decreases-loop-bay : goal.decreases-loop-bay
decreases-loop-bay g l = vec_len l.bays
