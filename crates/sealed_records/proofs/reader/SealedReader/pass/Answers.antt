use Rattle.std.proofs.Common.{◌≡◌, ◌+◌, ◌-◌, arith}
use Rattle.sealed_records.proofs.ReaderLemmas.{ended, passed}
use Rattle.sealed_records.proofs.reader.SealedReader.pass.Goals as goal

pub returns-then-self-gt0-clause-passes : goal.returns-then-self-gt0-clause-passes
returns-then-self-gt0-clause-passes c =
    let unseen = rw (← c.self.view_is) at c.requires.unseen in
    rw (← c.self.view_is) (λ before bytes laids long after.
    passed before laids _ after bytes _ _ c.if-self-gt0.true (omega (arith, long, unseen)) (omega (arith, long)))

pub returns-clause-passes : goal.returns-clause-passes
returns-clause-passes c =
    let unseen = rw (← c.self.view_is) at c.requires.unseen in
    let some = rw (← c.self.view_is) at c.requires.some in
    let none : c.self.inside.left - c.args.count ≡ 0 = omega (arith, c.if-self-gt0.false) in
    rw (← c.self.view_is) (λ before bytes laids long after.
    rw (none, c.new-self-inside.ensures)
    (ended before laids _ after bytes (c.self.inside.at + c.args.count) c.sum-sum.result some
    (omega (arith, long, unseen, c.if-self-gt0.false)) (omega (arith, long)) c.sum-sum.ensures))
