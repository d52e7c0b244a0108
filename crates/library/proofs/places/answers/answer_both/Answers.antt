use Rattle.std.proofs.Common.{ℕ, subst}
use Rattle.drive_commands.specs.Execute.{asked}
use Rattle.library.specs.Served.{ServesHalves}
use Rattle.library.proofs.HalfLemmas.{halves_serve, halves_share}
use Rattle.library.proofs.places.answers.answer_both.Goals as goal

pub returns-clause-share : goal.returns-clause-share
returns-clause-share g c =
    halves_share g.D.Disk.state c.args.front.now c.execute_both-reply.new.front c.args.back.now
    c.execute_both-reply.new.back
    (asked c.nexus.result c.args.cdb.now c.args.sent.now) c.execute_both-reply.result c.execute_both-reply.new.sent
    c.accepted-before.result c.accepted-after.result c.args.share.now c.enter_if_risen.new.share
    c.execute_both-reply.ensures (λ old new step. c.replies_show_changes.ensures _ _ _ _ step)
    c.accepted-before.ensures c.accepted-after.ensures c.wait_at_limit.ensures
    c.requires.share (λ same. (c.enter_if_risen.ensures.same same).0)
    (λ risen. (c.enter_if_risen.ensures.risen risen).0)

pub returns-clause-serves : goal.returns-clause-serves
returns-clause-serves g c =
    subst (λ (n : ℕ). ServesHalves g.D.Disk.state c.args.front.now c.args.back.now
    (asked n c.args.cdb.now c.args.sent.now)
    c.args.seat.now c.execute_both-reply.result c.execute_both-reply.new.front c.execute_both-reply.new.back
    c.execute_both-reply.new.sent c.enter_if_risen.new.seat) c.nexus.ensures
    (halves_serve g.D.Disk.state c.args.front.now c.execute_both-reply.new.front c.args.back.now
    c.execute_both-reply.new.back
    (asked c.nexus.result c.args.cdb.now c.args.sent.now) c.args.seat.now c.count_answer.new.self
    c.enter_if_risen.new.seat c.execute_both-reply.result c.execute_both-reply.new.sent
    c.accepted-before.result c.accepted-after.result c.execute_both-reply.ensures c.nexus.ensures
    (λ old new step. c.replies_show_changes.ensures _ _ _ _ step) c.accepted-before.ensures
    c.accepted-after.ensures c.wait_at_limit.ensures c.count_answer.ensures
    (λ same. (c.enter_if_risen.ensures.same same).1) (λ risen. (c.enter_if_risen.ensures.risen risen).1))
