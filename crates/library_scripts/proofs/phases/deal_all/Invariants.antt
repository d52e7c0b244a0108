use Rattle.std.proofs.Common.{◌≡◌, ◌≤◌, ◌<◌, ℕ, [], get_or, take, length}
use Rattle.vtl_script.specs.declared.lines.Line.{Line}
use Rattle.library_scripts.specs.Inner.Jobs.{IsDealt, JobState, lines_of, seats_of}
use Rattle.library_scripts.proofs.phases.deal_all.Given as goal

-- the lines so far are with the jobs of their hosts, later jobs have none, and the other lines are unchanged
abbrev pub invariant-loop-line : goal.invariant-loop-line
invariant-loop-line g l = record {
  seats : seats_of l.jobs ≡ seats_of l.fn.jobs;
  dealt : (k : ℕ) (d : JobState) → k < length l.jobs → IsDealt (get_or l.jobs k d);
  lines : lines_of l.jobs ≡ take l.line-index l.fn.lines;
  behind : (k : ℕ) (e : JobState) → k < length l.jobs
      → ((i : ℕ) (d : Line) → i < l.line-index → (get_or l.fn.lines i d).host ≤ k) → (get_or l.jobs k e).lines ≡ [];
  left : (k : ℕ) (d : Line) → l.line-index ≤ k → get_or l.line-items k d ≡ get_or l.fn.lines k d;
}
