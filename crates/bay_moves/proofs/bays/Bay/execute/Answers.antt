use Rattle.std.proofs.Common.{subst}
use Rattle.drive_commands.specs.Events.{Execute}
use Rattle.drive_commands.specs.Execute.{asked, is_device_fault}
use Rattle.drive_commands.specs.State.{medium_in}
use Rattle.bay_moves.specs.Bays.{AnswersInEvent}
use Rattle.bay_moves.specs.Elements.{BayState}
use Rattle.bay_moves.proofs.MomentLemmas.{answers_in_event, event_keeps}
use Rattle.bay_moves.proofs.HandLemmas.{advanced_here, keeps_here, kept_bay, kept_here}
use Rattle.bay_moves.proofs.bays.Bay.execute.Goals as goal

pub execute-reply-requires : goal.execute-reply-requires
execute-reply-requires g c = record {
  hand = λ needs. kept_bay g.D.Disk.state c.self.inside.drive.bay c.self.invariant.cartridge;
}

pub invariant_of-self : goal.invariant_of-self
invariant_of-self g c =
    event_keeps g.D.Disk.state g.met.D.Disk.is_disk c.reservations_outlive_each_stop.ensures.goes_on
    c.self.inside.drive c.execute-reply.new.self
    (Execute (asked c.args.nexus c.args.cdb.now c.args.sent.now)) c.self.invariant
    (c.execute-reply.result, c.execute-reply.ensures.step)
    (keeps_here g.D.Disk.state (medium_in c.execute-reply.new.self.bay)
    (advanced_here g.D.Disk.state (medium_in c.self.inside.drive.bay)
    (medium_in c.execute-reply.new.self.bay)
    c.execute-reply.ensures.step.taken.made.changes (is_device_fault c.execute-reply.ensures.step.answer)
    (kept_here g.D.Disk.state (medium_in c.self.inside.drive.bay) c.self.invariant.cartridge)
    c.execute-reply.ensures.step.taken.advances) c.known.ensures)

pub returns-clause-moments : goal.returns-clause-moments
returns-clause-moments g c =
    let request = asked c.args.nexus c.args.cdb.now c.args.sent.now in
    subst
    (λ (d : BayState g.row.D.Denot).
    AnswersInEvent g.D.Disk.state d request c.execute-reply.result c.execute-reply.new.self)
    c.self.view_is
    (answers_in_event g.D.Disk.state g.met.D.Disk.is_disk c.reservations_outlive_each_stop.ensures.goes_on
    c.self.inside.drive c.execute-reply.new.self request c.execute-reply.result c.self.invariant
    c.execute-reply.ensures.step)
