use Rattle.std.proofs.Common.{◌≡◌, ◌+◌, ◌≤◌, ◌++◌, length, vec_len, vec_capacity}
use Rattle.std.specs.Vec.Iter.{into_iter_items, into_iter_len}
use Rattle.library_scripts.specs.Inner.Jobs.{seats_of}
use Rattle.library_scripts.proofs.stages.seats_in.Given as goal

-- the seats so far are out of their jobs, and there is room for the others
abbrev pub invariant-loop-job : goal.invariant-loop-job
invariant-loop-job g l = record {
  can : (goal.iterator-loop-job g).can_next l.job-iterator;
  finite : (goal.iterator-loop-job g).is_finite l.job-iterator;
  counted : into_iter_len l.job-iterator ≡ length (into_iter_items l.job-iterator);
  seats : l.seats.items ++ seats_of (into_iter_items l.job-iterator) ≡ seats_of l.fn.jobs.items;
  room : vec_len l.seats + length (into_iter_items l.job-iterator) ≤ vec_capacity l.seats;
}
