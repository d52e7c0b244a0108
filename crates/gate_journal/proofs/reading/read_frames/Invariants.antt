use Rattle.std.proofs.Common.{◌≡◌, ℕ, List, ◌<◌, ◌≤◌, ◌-◌, length}
use Rattle.std.specs.List.{All}
use Rattle.tape_disk.specs.Disk.{Keeps}
use Rattle.gate_journal.specs.Answers.{NoneFailed}
use Rattle.gate_journal.specs.Crash.{Unwritten}
use Rattle.gate_journal.specs.Inner.Found.{Walked}
use Rattle.gate_journal.specs.Reads.{OnlyReads}
use Rattle.gate_journal.specs.State.{IsExtent}
use Rattle.gate_journal.proofs.reading.read_frames.Given as goal

abbrev pub invariant-loop-extents : goal.invariant-loop-extents
invariant-loop-extents g l =
    let old = g.D.Disk.state l.initial.disk in
    let new = g.D.Disk.state l.disk in
    record {
      started : l.start ≤ l.at;
      inside : l.at < l.len;
      extents : All (IsExtent l.at) l.extents.items;
      reads : OnlyReads g.D.Disk.effect l.initial.disk l.disk;
      keeps : Keeps old new;
      none_failed : NoneFailed old new;
      honest :
          old.honest → Unwritten old new × (l.len ≡ length old.seen)
          × ((bodies : List (List ℕ)) × Walked old.seen l.start bodies l.extents.items l.at);
    }

abbrev pub decreases-loop-extents : goal.decreases-loop-extents
decreases-loop-extents g l = l.len - l.at
