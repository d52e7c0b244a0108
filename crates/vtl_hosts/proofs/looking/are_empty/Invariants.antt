use Rattle.std.proofs.Common.{◌≡◌, false}
use Rattle.vtl_hosts.proofs.LookLemmas.{LeavesBefore, LooksSo}
use Rattle.vtl_hosts.proofs.looking.are_empty.Given as goal

-- the rings of the hosts so far were looked at
abbrev pub invariant-loop-place : goal.invariant-loop-place
invariant-loop-place g l = record {
  looks : LooksSo l.fn.hosts l.fn.requests l.fn.answers l.hosts l.requests l.answers l.empty l.place;
  some : l.empty ≡ false → LeavesBefore l.hosts l.answers l.place;
}
