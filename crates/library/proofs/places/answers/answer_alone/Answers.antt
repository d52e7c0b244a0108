use Rattle.std.proofs.Common.{ℕ, subst}
use Rattle.drive_commands.specs.Execute.{asked}
use Rattle.library.specs.Served.{ServesFront}
use Rattle.library.proofs.HalfLemmas.{front_serves, front_share}
use Rattle.library.proofs.places.answers.answer_alone.Goals as goal

pub returns-clause-share : goal.returns-clause-share
returns-clause-share g c =
    front_share g.D.Disk.state c.args.half.now c.execute-reply.new.self
    (asked c.nexus.result c.args.cdb.now c.args.sent.now) c.execute-reply.result c.execute-reply.new.sent
    c.accepted-before.result c.accepted-after.result c.args.share.now c.enter_if_risen.new.share
    c.execute-reply.ensures.step (λ reply answered step. c.replies_show_changes.ensures _ _ _ _ step)
    c.accepted-before.ensures c.accepted-after.ensures c.wait_if_answered.ensures
    c.requires (λ same. (c.enter_if_risen.ensures.same same).0) (λ risen. (c.enter_if_risen.ensures.risen risen).0)

pub returns-clause-serves : goal.returns-clause-serves
returns-clause-serves g c =
    subst (λ (n : ℕ). ServesFront g.D.Disk.state c.args.half.now (asked n c.args.cdb.now c.args.sent.now)
    c.args.seat.now c.execute-reply.result c.execute-reply.new.self c.execute-reply.new.sent
    c.enter_if_risen.new.seat) c.nexus.ensures
    (front_serves g.D.Disk.state c.args.half.now c.execute-reply.new.self
    (asked c.nexus.result c.args.cdb.now c.args.sent.now) c.args.seat.now c.count_if_answered.new.seat
    c.enter_if_risen.new.seat c.execute-reply.result c.execute-reply.new.sent
    c.accepted-before.result c.accepted-after.result
    c.execute-reply.ensures.step c.execute-reply.ensures.waits
    c.execute-reply.ensures.moments c.known.ensures.keeps c.known-2.ensures.keeps c.nexus.ensures
    (λ reply answered step. c.replies_show_changes.ensures _ _ _ _ step) c.accepted-before.ensures
    c.accepted-after.ensures c.wait_if_answered.ensures c.count_if_answered.ensures.none
    c.count_if_answered.ensures.some (λ same. (c.enter_if_risen.ensures.same same).1)
    (λ risen. (c.enter_if_risen.ensures.risen risen).1))
