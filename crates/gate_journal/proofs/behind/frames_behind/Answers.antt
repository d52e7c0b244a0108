use Rattle.std.proofs.Common.{◌∙◌}
use Rattle.gate_journal.specs.Reads.{reads_then}
use Rattle.gate_journal.proofs.BehindLemmas.{found_behind, none_behind}
use Rattle.gate_journal.proofs.behind.frames_behind.Goals as goal

pub returns-in_err-hides_frames-clause-reads : goal.returns-in_err-hides_frames-clause-reads
returns-in_err-hides_frames-clause-reads g c =
    reads_then g.D.Disk.effect _ _ _ c.last_gates.ensures.reads c.hides_frames.ensures.reads

pub returns-then-branch-clause-reads : goal.returns-then-branch-clause-reads
returns-then-branch-clause-reads g c =
    reads_then g.D.Disk.effect _ _ _ c.last_gates.ensures.reads c.hides_frames.ensures.reads

pub returns-else-branch-clause-reads : goal.returns-else-branch-clause-reads
returns-else-branch-clause-reads g c =
    reads_then g.D.Disk.effect _ _ _ c.last_gates.ensures.reads c.hides_frames.ensures.reads

pub returns-then-branch-clause-answer : goal.returns-then-branch-clause-answer
returns-then-branch-clause-answer g c =
    let found = rw c.in-Some.is at c.in_ok-gates.ensures.answer in
    let hidden = c.in_ok-hides_frames.ensures.answer in (
      hidden.0 ∙ found.0,
      λ h.
          let h1 = c.last_gates.ensures.disk.stays_honest h in
          let side = found.1 h in
          found_behind (g.D.Disk.state c.args.disk.now).seen (g.D.Disk.state c.last_gates.new.disk).seen
          (c.last_gates.ensures.unwritten h).seen side.0 side.1 c.in-Some.gates.end side.2 side.4
          ((hidden.1 h1).0 c.if-branch.true),
    )

pub returns-else-branch-clause-answer : goal.returns-else-branch-clause-answer
returns-else-branch-clause-answer g c =
    let found = rw c.in-Some.is at c.in_ok-gates.ensures.answer in
    let hidden = c.in_ok-hides_frames.ensures.answer in (
      hidden.0 ∙ found.0,
      λ h at has.
          let h1 = c.last_gates.ensures.disk.stays_honest h in
          let side = found.1 h in
          none_behind (g.D.Disk.state c.args.disk.now).seen (g.D.Disk.state c.last_gates.new.disk).seen
          (c.last_gates.ensures.unwritten h).seen side.0 side.1 c.in-Some.gates.end side.2 side.4
          _ c.if-branch.false (hidden.1 h1).1 at has,
    )
