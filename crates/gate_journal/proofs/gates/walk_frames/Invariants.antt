use Rattle.std.proofs.Common.{◌≡◌, ℕ, List, ◌<◌, ◌≤◌, ◌-◌, length}
use Rattle.tape_disk.specs.Disk.{Keeps}
use Rattle.gate_journal.specs.Answers.{NoneFailed}
use Rattle.gate_journal.specs.Crash.{Unwritten}
use Rattle.gate_journal.specs.Inner.Found.{Walked}
use Rattle.gate_journal.specs.Inner.Gates.{gate_before}
use Rattle.gate_journal.specs.Reads.{OnlyReads}
use Rattle.gate_journal.proofs.gates.walk_frames.Given as goal

abbrev pub invariant-loop-size : goal.invariant-loop-size
invariant-loop-size g l =
    let old = g.D.Disk.state l.initial.disk in
    let new = g.D.Disk.state l.disk in
    record {
      inside : l.at < l.len;
      counted : l.frames ≤ l.at;
      reads : OnlyReads g.D.Disk.effect l.initial.disk l.disk;
      keeps : Keeps old new;
      none_failed : NoneFailed old new;
      honest :
          old.honest → Unwritten old new × (l.len ≡ length old.seen)
          × ((bodies : List (List ℕ)) × (extents : List (ℕ × ℕ)) × Walked old.seen l.start bodies extents l.at
          × (l.last ≡ gate_before extents) × (l.frames ≡ length extents));
    }

abbrev pub decreases-loop-size : goal.decreases-loop-size
decreases-loop-size g l = l.len - l.at
