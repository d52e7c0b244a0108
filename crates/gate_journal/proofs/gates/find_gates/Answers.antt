use Rattle.std.proofs.Common.{length, arith, ap, length-append}
use Rattle.gate_journal.specs.Reads.{reads_then}
use Rattle.gate_journal.specs.Side.{spell_front}
use Rattle.gate_journal.proofs.GateLemmas.{whole_found}
use Rattle.gate_journal.proofs.gates.find_gates.Goals as goal

pub walk_frames-requires : goal.walk_frames-requires
walk_frames-requires g c = λ honest.
    let was = c.find_start.ensures.disk.was_honest honest in
    let side = c.in_ok-front.ensures.answer.1 was in
    omega (
      arith,
      side.4.size,
      ap length side.3,
      ap length (c.find_start.ensures.unwritten was).seen,
      length-append (spell_front side.0) side.1,
    )

pub returns-clause-reads : goal.returns-clause-reads
returns-clause-reads g c =
    reads_then g.D.Disk.effect _ _ _ c.find_start.ensures.reads c.walk_frames.ensures.reads

pub returns-clause-answer : goal.returns-clause-answer
returns-clause-answer g c =
    whole_found (g.D.Disk.state c.args.disk.now) (g.D.Disk.state c.find_start.new.disk)
    (g.D.Disk.state c.walk_frames.new.disk) c.in_ok-front.ensures.answer.0 c.in_ok-front.front c.base_in.result
    c.base_in.ensures c.find_start.ensures.disk.stays_honest c.in_ok-front.ensures.answer.1
    c.find_start.ensures.unwritten c.walk_frames.result c.walk_frames.ensures.answer
