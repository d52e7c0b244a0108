use Rattle.std.proofs.Common.{◌≡◌, ◌∙◌, ap, Err, Some, refl, sym, subst, Result}
use Rattle.scsi_sense.specs.declared.replies.Reply.{Reply}
use Rattle.tape_buffer.specs.Moves.{buffer_below}
use Rattle.tape_buffer.specs.State.{BufferState, state_of}
use Rattle.drive_commands.specs.Events.{Load}
use Rattle.drive_commands.specs.Media.{TakesIn}
use Rattle.drive_commands.specs.Relations.{made_nothing}
use Rattle.drive_commands.specs.State.{medium_in}
use Rattle.bay_moves.specs.Bays.{EveryMoment, loaded_or_back}
use Rattle.bay_moves.specs.Elements.{BayState}
use Rattle.bay_moves.proofs.MomentLemmas.{event_keeps, load_moments}
use Rattle.bay_moves.proofs.bays.Bay.load.Goals.{in-Ok, in-Err}
use Rattle.bay_moves.proofs.HandLemmas.{back_here, keeps_here, kept_here, loaded_here}
use Rattle.bay_moves.proofs.bays.Bay.load.Goals as goal

pub of_medium-requires-clause-hand : goal.of_medium-requires-clause-hand
of_medium-requires-clause-hand g c =
    let state = g.D.Disk.state in
    back_here state c.self.inside.drive c.into_medium-medium.result (c.in-Err.medium, c.in-Err.reply)
    c.load-loaded.new.self c.into_medium-medium.ensures.keeps.hand
    (subst (λ (r : Result Unit (BufferState g.row.D.Denot × Reply)).
    TakesIn (state_of state) (buffer_below state) c.self.inside.drive c.into_medium-medium.result r
    c.load-loaded.new.self) c.in-Err.is c.load-loaded.ensures.taken)

pub invariant_of-self : goal.invariant_of-self
invariant_of-self g c =
    event_keeps g.D.Disk.state g.met.D.Disk.is_disk c.reservations_outlive_each_stop.ensures.goes_on
    c.self.inside.drive c.load-loaded.new.self (Load (state_of g.D.Disk.state c.into_medium-medium.result))
    c.self.invariant
    (c.into_medium-medium.result, refl, c.load-loaded.result, c.load-loaded.ensures.taken)
    (keeps_here g.D.Disk.state (medium_in c.load-loaded.new.self.bay)
    (loaded_here g.D.Disk.state c.self.inside.drive c.into_medium-medium.result
    c.load-loaded.result
    c.load-loaded.new.self
    (kept_here g.D.Disk.state (medium_in c.self.inside.drive.bay) c.self.invariant.cartridge)
    c.into_medium-medium.ensures.keeps.hand c.load-loaded.ensures.taken) c.known.ensures)

pub returns-clause-moments : goal.returns-clause-moments
returns-clause-moments g c =
    let state = g.D.Disk.state in
    let new = c.load-loaded.new.self in
    let given = c.into_medium-medium.result in
    let same : c.match-loaded.result ≡ c.load-loaded.result =
    elim c.match-loaded.branch [
      | in-Ok w ↦ w.result-is ∙ sym w.in-Ok.is
      | in-Err w ↦
          w.result-is ∙ ap (λ (m : BufferState g.row.D.Denot). Err (m, w.in-Err.reply)) w.of_medium.ensures
          ∙ sym w.in-Err.is
    ] in
    let there =
    load_moments state g.met.D.Disk.is_disk c.reservations_outlive_each_stop.ensures.goes_on c.self.inside.drive new
    given c.load-loaded.result c.self.invariant c.into_medium-medium.ensures.keeps c.load-loaded.ensures.taken in
    let at_self =
    subst
    (λ (d : BayState g.row.D.Denot).
    EveryMoment state d (Load (state_of state given)) made_nothing (Some given)
    (loaded_or_back state c.load-loaded.result new) new)
    c.self.view_is there in
    let at_given =
    subst
    (λ (m : BufferState g.row.D.Denot).
    EveryMoment state c.args.self.now (Load (state_of state m)) made_nothing (Some m)
    (loaded_or_back state c.load-loaded.result new) new)
    c.into_medium-medium.ensures.same at_self in
    subst
    (λ (r : Result Unit (BufferState g.row.D.Denot × Reply)).
    EveryMoment state c.args.self.now (Load (state_of state c.args.cartridge)) made_nothing (Some c.args.cartridge)
    (loaded_or_back state r new) new)
    (sym same) at_given
