use Rattle.std.proofs.Common.{◌≡◌, ◌≤◌, ℕ, get_or, take, length, vec_capacity}
use Rattle.library_scripts.specs.Inner.Jobs.{JobState, replies_of, seats_of}
use Rattle.library_scripts.proofs.phases.give_all.Given as goal

-- the replies of the jobs so far follow one another, there is room for all, and the other jobs are unchanged
abbrev pub invariant-loop-job : goal.invariant-loop-job
invariant-loop-job g l = record {
  seats : seats_of l.job-items ≡ seats_of l.fn.jobs;
  replies : l.replies.items ≡ replies_of (take l.job-index l.fn.jobs);
  room : length (replies_of l.fn.jobs) ≤ vec_capacity l.replies;
  left : (k : ℕ) (d : JobState) → l.job-index ≤ k → get_or l.job-items k d ≡ get_or l.fn.jobs k d;
}
