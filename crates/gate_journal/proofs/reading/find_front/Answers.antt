use Rattle.std.proofs.Common.{◌≤◌, arith, length, take}
use Rattle.gate_journal.proofs.SpelledLemmas.{front_sized, no_front}
use Rattle.gate_journal.proofs.reading.find_front.Goals as goal

pub returns-in-None-clause-answer : goal.returns-in-None-clause-answer
returns-in-None-clause-answer g c =
    let found = c.in_ok-found.ensures.answer in
    let len = c.in_ok-found.found.len in
    let bytes = c.in_ok-found.found.bytes in
    let fits : len ≤ length bytes = omega (arith, found.2) in (
      found.0,
      λ honest.
          let begins = found.3 honest in
          no_front (g.D.Disk.state c.args.disk.now).seen (take len bytes) begins.0 (front_sized bytes len found.1 fits)
          begins.1 c.in-None.ensures,
    )
