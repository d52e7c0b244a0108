use Rattle.std.proofs.Common.{◌≡◌, ◌≤◌, ◌+◌, length, map, take, vec_len, vec_capacity}
use Rattle.library.specs.Counts.{new_seat}
use Rattle.library.proofs.opening.seat_all.Given as goal

-- the hosts so far have their seats
abbrev pub invariant-loop-nexus : goal.invariant-loop-nexus
invariant-loop-nexus g l = record {
  counted : vec_len l.seats ≡ l.nexus-index;
  room : length l.hosts ≤ vec_capacity l.seats;
  seats : l.seats.items ≡ map new_seat (take l.nexus-index l.hosts);
  left : l.tally.hosts_left + l.nexus-index ≡ length l.hosts;
}
