use Rattle.std.proofs.Common.{arith, refl}
use Rattle.change_records.proofs.ReaderLemmas.{ended, passed}
use Rattle.change_records.proofs.reader.RecordReader.pass.Goals as goal

pub returns-then-self-gt0-clause-passes : goal.returns-then-self-gt0-clause-passes
returns-then-self-gt0-clause-passes c =
    let unseen = rw (← c.self.view_is) at c.requires.unseen in
    rw (← c.self.view_is) (λ before bytes changes long after.
    passed before bytes changes _ _ after c.if-self-gt0.true (omega (arith, long, unseen)) (omega (arith, long))
    refl refl refl)

pub returns-clause-passes : goal.returns-clause-passes
returns-clause-passes c =
    let unseen = rw (← c.self.view_is) at c.requires.unseen in
    let some = rw (← c.self.view_is) at c.requires.some in
    rw (← c.self.view_is) (λ before bytes changes long after.
    ended before bytes changes _ _ after some (omega (arith, long, unseen, c.if-self-gt0.false))
    (omega (arith, c.if-self-gt0.false)) (omega (arith, long)) refl c.new-self-inside.ensures)
