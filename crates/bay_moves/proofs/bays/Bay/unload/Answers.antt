use Rattle.std.proofs.Common.{◌≡◌, refl, sym, subst, Result}
use Rattle.scsi_sense.specs.declared.replies.Reply.{Reply}
use Rattle.tape_buffer.specs.Moves.{buffer_below}
use Rattle.tape_buffer.specs.State.{BufferState, state_of}
use Rattle.drive_commands.specs.Events.{Unload}
use Rattle.drive_commands.specs.Media.{GoesOutOf}
use Rattle.drive_commands.specs.Relations.{made_nothing}
use Rattle.drive_commands.specs.State.{medium_in}
use Rattle.bay_moves.specs.Bays.{EveryMoment, out_or_in}
use Rattle.bay_moves.specs.Elements.{BayState}
use Rattle.bay_moves.proofs.MomentLemmas.{event_keeps, out_moments}
use Rattle.bay_moves.proofs.bays.Bay.unload.Goals.{in-Ok, in-Err}
use Rattle.bay_moves.proofs.HandLemmas.{keeps_here, kept_bay, kept_here, left_here, out_here}
use Rattle.bay_moves.proofs.bays.Bay.unload.Goals as goal

pub unload-out-requires : goal.unload-out-requires
unload-out-requires g c = record {
  hand = kept_bay g.D.Disk.state c.self.inside.drive.bay c.self.invariant.cartridge;
}

pub of_medium-requires-clause-hand : goal.of_medium-requires-clause-hand
of_medium-requires-clause-hand g c =
    let state = g.D.Disk.state in
    let bay = c.self.inside.drive.bay in
    out_here state bay c.self.inside.drive c.in-Ok.medium c.unload-out.new.self refl
    (kept_here state (medium_in bay) c.self.invariant.cartridge)
    (subst (λ (r : Result (BufferState g.row.D.Denot) Reply).
    GoesOutOf (state_of state) (buffer_below state) bay c.self.inside.drive r c.unload-out.new.self) c.in-Ok.is
    c.unload-out.ensures.out)

pub invariant_of-self : goal.invariant_of-self
invariant_of-self g c =
    event_keeps g.D.Disk.state g.met.D.Disk.is_disk c.reservations_outlive_each_stop.ensures.goes_on
    c.self.inside.drive c.unload-out.new.self Unload c.self.invariant
    (c.unload-out.result, c.unload-out.ensures.out)
    (keeps_here g.D.Disk.state (medium_in c.unload-out.new.self.bay)
    (left_here g.D.Disk.state c.self.inside.drive.bay c.self.inside.drive c.unload-out.result
    c.unload-out.new.self refl
    (kept_here g.D.Disk.state (medium_in c.self.inside.drive.bay) c.self.invariant.cartridge)
    c.unload-out.ensures.out) c.known.ensures)

pub returns-clause-moments : goal.returns-clause-moments
returns-clause-moments g c =
    let state = g.D.Disk.state in
    let new = c.unload-out.new.self in
    let same : c.match-out.result ≡ c.unload-out.result =
    elim c.match-out.branch [
      | in-Ok w ↦ (let a = w.result-is in let b = w.in-Ok.is in let m = w.of_medium.ensures in cc)
      | in-Err w ↦ (let a = w.result-is in let b = w.in-Err.is in cc)
    ] in
    let there =
    out_moments state g.met.D.Disk.is_disk c.reservations_outlive_each_stop.ensures.goes_on c.self.inside.drive new
    c.unload-out.result c.self.invariant c.unload-out.ensures.out in
    let at_self =
    subst
    (λ (d : BayState g.row.D.Denot).
    EveryMoment state d Unload made_nothing (medium_in d.bay) (out_or_in state c.unload-out.result new) new)
    c.self.view_is there in
    subst
    (λ (r : Result (BufferState g.row.D.Denot) Reply).
    EveryMoment state c.args.self.now Unload made_nothing (medium_in c.args.self.now.bay) (out_or_in state r new) new)
    (sym same) at_self
