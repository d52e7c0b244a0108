use Rattle.std.proofs.Common.{◌≡◌, ◌+◌, ◌≤◌, ◌++◌, length, vec_len, vec_capacity}
use Rattle.std.specs.Vec.Iter.{into_iter_items, into_iter_len}
use Rattle.library_scripts.specs.Inner.Jobs.{seats_of}
use Rattle.library_scripts.proofs.stages.jobs_of.Given as goal

-- the seats so far have their jobs, and there is room for the others
abbrev pub invariant-loop-seat : goal.invariant-loop-seat
invariant-loop-seat g l = record {
  can : (goal.iterator-loop-seat g).can_next l.seat-iterator;
  finite : (goal.iterator-loop-seat g).is_finite l.seat-iterator;
  counted : into_iter_len l.seat-iterator ≡ length (into_iter_items l.seat-iterator);
  seats : seats_of l.jobs.items ++ into_iter_items l.seat-iterator ≡ l.fn.seats.items;
  room : vec_len l.jobs + length (into_iter_items l.seat-iterator) ≤ vec_capacity l.jobs;
}
