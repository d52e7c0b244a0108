use Rattle.std.proofs.Common.{◌≡◌, ◌<◌, ℕ, [], get_or}
use Rattle.library_scripts.specs.Inner.Jobs.{JobState, seats_of}
use Rattle.library_scripts.proofs.phases.begin_all.Given as goal

-- the jobs so far have no line and no reply, and each still has its seat
abbrev pub invariant-loop-job : goal.invariant-loop-job
invariant-loop-job g l = record {
  seats : seats_of l.job-items ≡ seats_of l.fn.jobs;
  none : (k : ℕ) (d : JobState) → k < l.job-index
      → ((get_or l.job-items k d).lines ≡ []) × ((get_or l.job-items k d).replies ≡ []);
}
