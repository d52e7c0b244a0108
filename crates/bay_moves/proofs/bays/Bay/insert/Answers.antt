use Rattle.std.proofs.Common.{Some, refl, subst, sym}
use Rattle.tape_buffer.specs.State.{BufferState, state_of}
use Rattle.drive_commands.specs.Events.{Insert}
use Rattle.drive_commands.specs.Relations.{made_nothing}
use Rattle.drive_commands.specs.State.{medium_in}
use Rattle.bay_moves.specs.Bays.{EveryMoment}
use Rattle.bay_moves.specs.Elements.{BayState}
use Rattle.bay_moves.proofs.MomentLemmas.{event_keeps, insert_moments}
use Rattle.bay_moves.proofs.HandLemmas.{HereIn, keeps_here}
use Rattle.bay_moves.proofs.bays.Bay.insert.Goals as goal

pub invariant_of-self : goal.invariant_of-self
invariant_of-self g c =
    event_keeps g.D.Disk.state g.met.D.Disk.is_disk c.reservations_outlive_each_stop.ensures.goes_on
    c.self.inside.drive c.insert.new.self (Insert (state_of g.D.Disk.state c.into_medium-medium.result))
    c.self.invariant (c.into_medium-medium.result, refl, c.insert.ensures.inserted)
    (keeps_here g.D.Disk.state (medium_in c.insert.new.self.bay)
    (subst (λ (d : BayState g.row.D.Denot). HereIn (medium_in d.bay)) (sym c.insert.ensures.inserted)
    c.into_medium-medium.ensures.keeps.hand) c.known.ensures)

pub returns-clause-moments : goal.returns-clause-moments
returns-clause-moments g c =
    let state = g.D.Disk.state in
    let new = c.insert.new.self in
    let given = c.into_medium-medium.result in
    let there =
    insert_moments state g.met.D.Disk.is_disk c.reservations_outlive_each_stop.ensures.goes_on c.self.inside.drive new
    given c.self.invariant c.into_medium-medium.ensures.keeps c.insert.ensures.inserted in
    let at_self =
    subst
    (λ (d : BayState g.row.D.Denot). EveryMoment state d (Insert (state_of state given)) made_nothing (Some given)
    (medium_in new.bay) new)
    c.self.view_is there in
    subst
    (λ (m : BufferState g.row.D.Denot).
    EveryMoment state c.args.self.now (Insert (state_of state m)) made_nothing (Some m) (medium_in new.bay) new)
    c.into_medium-medium.ensures.same at_self
