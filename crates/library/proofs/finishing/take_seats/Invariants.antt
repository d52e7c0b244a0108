use Rattle.std.proofs.Common.{◌≡◌, ◌+◌, ◌%◌, ◌^◌, vec_len}
use Rattle.library.specs.Ends.{sum_of_answers, sum_of_moves, sum_of_seats}
use Rattle.library.proofs.finishing.take_seats.Given as goal

-- what was gathered and added up so far, and what the seats that are left have, are together the same
abbrev pub invariant-loop-seat : goal.invariant-loop-seat
invariant-loop-seat g l = record {
  shares :
      l.gathering.hosts.shares + vec_len l.seats ≡ l.initial.gathering.hosts.shares + vec_len l.initial.seats;
  changes :
      l.gathering.hosts.changes + sum_of_seats l.seats.items
      ≡ l.initial.gathering.hosts.changes + sum_of_seats l.initial.seats.items;
  answers :
      (l.answered + sum_of_answers l.seats.items) % 2 ^ 64 ≡ sum_of_answers l.initial.seats.items % 2 ^ 64;
  moves :
      (l.moved + sum_of_moves l.seats.items) % 2 ^ 64 ≡ (sum_of_moves l.initial.seats.items + l.fn.operator) % 2 ^ 64;
  total : l.gathering.total ≡ l.initial.gathering.total;
  bays : l.gathering.bays ≡ l.initial.gathering.bays;
}

abbrev pub decreases-loop-seat : goal.decreases-loop-seat
decreases-loop-seat g l = vec_len l.seats
