use Rattle.std.proofs.Common.{length, take}
use Rattle.std.specs.Prelude.{vec_capacity}
use Rattle.tape_disk.specs.Disk.{Keeps}
use Rattle.tape_disk.specs.Moments.{LeavesOnly}
use Rattle.gate_journal.specs.Answers.{NoneFailed}
use Rattle.gate_journal.specs.Followed.{KeepsRoom, followed}
use Rattle.gate_journal.specs.Inner.Writing.{Gathers, Touched}
use Rattle.gate_journal.proofs.gathering.add_parts.Given as goal

abbrev pub invariant-loop-number : goal.invariant-loop-number
invariant-loop-number g l =
    let parts = g.P.BodyParts.parts l.parts in
    let first = l.fn.bytes.items in
    let old = g.D.Disk.state l.fn.disk in
    let new = g.D.Disk.state l.disk in
    record {
      room : KeepsRoom parts (vec_capacity l.fn.bytes) (vec_capacity l.bytes);
      gathers : Gathers l.fn.from l.at (followed first (take l.number parts)) l.bytes.items old new;
      keeps : Keeps old new;
      none_failed : NoneFailed old new;
      moments :
          old.honest → LeavesOnly old new (Touched l.fn.from (length (followed first parts)) old.may_leave);
    }
