use Rattle.gate_journal.specs.Inner.Sides.{sound}
use Rattle.gate_journal.proofs.GateLemmas.{none_ours}
use Rattle.gate_journal.proofs.gates.last_gates.Goals as goal

pub returns-in-Err-NotOurs-clause-answer : goal.returns-in-Err-NotOurs-clause-answer
returns-in-Err-NotOurs-clause-answer g c =
    let found = rw c.in-Err-NotOurs.field-0-is at c.in-Err-NotOurs.ensures.answer in
    (found.0, λ honest. none_ours (g.D.Disk.state c.args.disk.now).seen (found.1 honest))

pub returns-in-Err-Damaged-clause-answer : goal.returns-in-Err-Damaged-clause-answer
returns-in-Err-Damaged-clause-answer g c =
    let found = rw c.in-Err-Damaged.field-0-is at c.in-Err-Damaged.ensures.answer in (
      found.0,
      λ honest h bodies there. sound (g.D.Disk.state c.args.disk.now).seen h bodies _ there (found.1 honest),
    )

pub returns-in-Err-Device-clause-answer : goal.returns-in-Err-Device-clause-answer
returns-in-Err-Device-clause-answer g c = rw c.in-Err-Device.field-0-is at c.in-Err-Device.ensures.answer
