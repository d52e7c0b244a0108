use Rattle.drive_commands.specs.Events.{Execute}
use Rattle.drive_commands.specs.Execute.{asked, is_device_fault}
use Rattle.drive_commands.specs.State.{medium_in}
use Rattle.bay_moves.proofs.HandLemmas.{advanced_here, keeps_here, kept_bay, kept_here}
use Rattle.bay_moves.proofs.MomentLemmas.{answers_lent_in_event, event_keeps}
use Rattle.bay_moves.proofs.answering.answer.Goals as goal

pub execute_lent-reply-requires : goal.execute_lent-reply-requires
execute_lent-reply-requires g c = record {
  hand = λ needs. kept_bay g.D.Disk.state c.args.drive.now.bay c.requires.cartridge;
}

pub returns-clause-keeps : goal.returns-clause-keeps
returns-clause-keeps g c =
    let state = g.D.Disk.state in
    let old = c.args.drive.now in
    let new = c.execute_lent-reply.new.self in
    let step = c.execute_lent-reply.ensures.step.step in
    event_keeps state g.met.D.Disk.is_disk c.reservations_outlive_each_stop.ensures.goes_on old new
    (Execute (asked c.args.nexus c.args.cdb.now c.args.sent.now)) c.requires (c.execute_lent-reply.result, step)
    (keeps_here state (medium_in new.bay)
    (advanced_here state (medium_in old.bay) (medium_in new.bay) step.taken.made.changes
    (is_device_fault step.answer) (kept_here state (medium_in old.bay) c.requires.cartridge) step.taken.advances)
    c.known.ensures)

pub returns-clause-moments : goal.returns-clause-moments
returns-clause-moments g c =
    answers_lent_in_event g.D.Disk.state g.met.D.Disk.is_disk c.reservations_outlive_each_stop.ensures.goes_on
    c.args.drive.now c.execute_lent-reply.new.self (asked c.args.nexus c.args.cdb.now c.args.sent.now)
    c.execute_lent-reply.result c.execute_lent-reply.new.sent c.requires c.execute_lent-reply.ensures.step
