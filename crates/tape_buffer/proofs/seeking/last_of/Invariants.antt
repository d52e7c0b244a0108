use Rattle.std.proofs.Common.{◌≤◌, List, length}
use Rattle.volume_core.specs.Volume.{AllApply, Part}
use Rattle.tape_buffer.specs.Inner.Seeking.{SameAt}
use Rattle.tape_buffer.proofs.seeking.last_of.Given as goal

abbrev pub invariant-back : goal.invariant-back
invariant-back l = record {
  few : l.number ≤ length l.fn.changes;
  same : (volume : List Part) → AllApply volume l.fn.changes → SameAt volume l.fn.changes l.fn.part l.fn.at l.number;
}

abbrev pub decreases-back : goal.decreases-back
decreases-back l = l.number
