use Rattle.std.proofs.Common.{length}
use Rattle.split_bay.specs.Backs.{FollowsSpan}
use Rattle.split_bay.specs.Spans.{span_of}
use Rattle.split_bay.specs.Taken.{TakesWaiting}
use Rattle.split_bay.proofs.taking.take_known.Given as goal

abbrev pub invariant-changes : goal.invariant-changes
invariant-changes g l = record {
  follows : FollowsSpan g.D.Disk.state l.medium (span_of l.receiving.received);
  takes : TakesWaiting g.D.Disk.state l.fn.receiving l.fn.medium l.receiving l.medium;
}

abbrev pub decreases-changes : goal.decreases-changes
decreases-changes g l = length l.receiving.waiting
