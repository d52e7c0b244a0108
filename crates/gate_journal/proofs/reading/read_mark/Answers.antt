use Rattle.std.proofs.Common.{◌<◌, ◌+◌, arith}
use Rattle.gate_journal.proofs.Marks.{whole}
use Rattle.gate_journal.proofs.reading.read_mark.Goals as goal

pub returns-clause-answer : goal.returns-clause-answer
returns-clause-answer g c =
    let seen = (g.D.Disk.state c.args.disk.now).seen in
    let size = c.length_behind-size.result in
    let far : c.args.at + 5 + size < c.args.len = omega (arith, c.from.ensures) in (
      c.in_ok-read_at-2.ensures.passes.none_failed,
      omega arith,
      omega arith,
      far,
      λ honest.
          let sized = c.requires.len honest in
          whole seen c.args.at (omega (arith, sized)) c.read_at-2.new.buffer (omega (arith, sized, far))
          (c.in_ok-read_at-2.ensures.bytes honest) size (omega arith) c.length_behind-size.ensures
          (omega (arith, sized, far)),
    )
