use Rattle.std.proofs.Common.{◌≡◌, ◌≤◌, ◌-◌, [], length, false}
use Rattle.std.specs.Prelude.{slice_index_or}
use Rattle.tape_disk.specs.Disk.{Keeps}
use Rattle.gate_journal.specs.Answers.{NoneFailed}
use Rattle.gate_journal.specs.Crash.{Unwritten}
use Rattle.gate_journal.specs.Reads.{OnlyReads}
use Rattle.gate_journal.specs.Inner.Pieces.{IsSoFar}
use Rattle.gate_journal.proofs.pieces.decode_body.Given as goal

abbrev pub invariant-loop-so_far : goal.invariant-loop-so_far
invariant-loop-so_far g l =
    let start = l.fn.journal in
    let old = g.D.Disk.state start.disk in
    let new = g.D.Disk.state l.journal.disk in
    let extent = slice_index_or start.extents l.frame (0, 0) in
    record {
      fine : l.journal.failed ≡ false;
      front : l.journal.front ≡ start.front;
      extents : l.journal.extents ≡ start.extents;
      reserved : l.journal.reserved_extents ≡ start.reserved_extents;
      room : 1 ≤ length l.buffer;
      keeps : Keeps old new;
      none_failed : NoneFailed old new;
      unwritten : old.honest → Unwritten old new;
      reads : OnlyReads g.D.Disk.effect start.disk l.journal.disk;
      bodies : old.honest → l.journal.bodies ≡ start.bodies;
      so_far : IsSoFar l.so_far extent.1 old.honest (slice_index_or start.bodies l.frame []);
      within : g.T.Decodes.is_within l.fn.decoder l.decoder extent.0 l.so_far.bytes.bytes;
    }

abbrev pub decreases-loop-so_far : goal.decreases-loop-so_far
decreases-loop-so_far g l = (slice_index_or l.fn.journal.extents l.frame (0, 0)).1 - l.so_far.from
