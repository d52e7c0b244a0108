use Rattle.std.proofs.Common.{None, Some, refl, subst}
use Rattle.aptpl_store.specs.Kept.{store_kept}
use Rattle.drive_commands.specs.Execute.{asked, is_device_fault}
use Rattle.drive_commands.specs.State.{machine_of}
use Rattle.drive_commands.specs.Synchronize.{Acknowledges, IsSynchronizing}
use Rattle.tape_buffer.specs.State.{state_of}
use Rattle.split_bay.specs.Fronts.{AnswersHalf, AnswersOrWaits, FrontState, LeavesOrders, hosts_half}
use Rattle.split_bay.specs.Spans.{span_of}
use Rattle.split_bay.proofs.FrontLemmas.{moments_passed, orders_passed, owes_after}
use Rattle.split_bay.proofs.fronts.Front.execute.Goals as goal

pub pass_on-requires : goal.pass_on-requires
pass_on-requires g c =
    let step = c.in-Some.ensures.step.1.step in
    (owes_after g.D.Disk.state c.self.inside.drive.bay c.execute_alone.new.self.bay step.taken.made.changes
    (is_device_fault step.answer) (span_of c.self.inside.sending.sent) c.self.invariant.0 step.taken.advances).0

pub invariant_of-self : goal.invariant_of-self
invariant_of-self g c = (
  c.pass_on.ensures.stands,
  orders_passed g.D.Disk.state c.reservations_outlive_each_stop.ensures.goes_on c.self.inside.drive
      c.execute_alone.new.self c.pass_on.new.drive (asked c.args.nexus c.args.cdb.now c.args.sent.now)
      c.in-Some.reply c.execute_alone.new.sent c.self.invariant.1 c.in-Some.ensures.step c.pass_on.ensures.drive,
)

pub returns-in-None-clause-step : goal.returns-in-None-clause-step
returns-in-None-clause-step g c =
    let i = c.self.inside in
    let step = c.in-None.ensures.step in
    let request = asked c.args.nexus c.args.cdb.now c.args.sent.now in
    subst (λ (f : FrontState g.row.D.Denot). AnswersOrWaits g.D.Disk.state f request None
    (hosts_half c.execute_alone.new.self i.sending) c.execute_alone.new.sent) c.self.view_is
    ((step.0, refl, step.2), (λ j. hosts_half (step.1 j) i.sending))

pub returns-in-Some-clause-step : goal.returns-in-Some-clause-step
returns-in-Some-clause-step g c =
    let state = g.D.Disk.state in
    let answered = c.execute_alone.new.self in
    let request = asked c.args.nexus c.args.cdb.now c.args.sent.now in
    let inside = c.self.inside in
    let step = c.in-Some.ensures.step in
    let taken = step.1.step.taken in
    let owes = owes_after state inside.drive.bay answered.bay taken.made.changes (is_device_fault step.1.step.answer)
    (span_of inside.sending.sent) c.self.invariant.0 taken.advances in
    subst (λ (f : FrontState g.row.D.Denot). AnswersHalf state f request c.in-Some.reply
    (record { drive = c.pass_on.new.drive; sending = c.pass_on.new.sending }) c.execute_alone.new.sent)
    c.self.view_is
    (record {
      answered = answered;
      step = step;
      made = owes.1;
      drive = c.pass_on.ensures.drive;
      sending = c.pass_on.ensures.sending;
    })

pub returns-in-Some-clause-waits : goal.returns-in-Some-clause-waits
returns-in-Some-clause-waits g c =
    subst (λ (f : FrontState g.row.D.Denot).
    IsSynchronizing (machine_of (state_of g.D.Disk.state) store_kept f.drive) c.args.cdb.now
    → Acknowledges c.in-Some.reply → ⊥) c.self.view_is c.in-Some.ensures.waits

pub returns-in-Some-clause-moments : goal.returns-in-Some-clause-moments
returns-in-Some-clause-moments g c =
    let state = g.D.Disk.state in
    let request = asked c.args.nexus c.args.cdb.now c.args.sent.now in
    subst (λ (f : FrontState g.row.D.Denot).
    LeavesOrders state f.drive request (Some c.in-Some.reply) c.pass_on.new.drive) c.self.view_is
    (moments_passed state c.reservations_outlive_each_stop.ensures.goes_on c.self.inside.drive
    c.execute_alone.new.self c.pass_on.new.drive request c.in-Some.reply c.execute_alone.new.sent
    c.self.invariant.1 c.in-Some.ensures.step c.pass_on.ensures.drive)
