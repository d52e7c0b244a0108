use Rattle.std.proofs.Common.{◌≡◌, ◌∙◌, ap, Option, Some, sym, subst}
use Rattle.tape_buffer.specs.State.{BufferState}
use Rattle.bay_moves.specs.Bays.{EveryMomentOff, EveryMomentOn}
use Rattle.drive_commands.specs.State.{medium_in}
use Rattle.bay_moves.proofs.HandLemmas.{HereIn, keeps_here, kept_here, off_here, on_here, some_here}
use Rattle.bay_moves.proofs.MomentLemmas.{off_moments, on_moments}
use Rattle.bay_moves.proofs.bays.Bay.power_on.Goals.{in-Some, in-None}
use Rattle.bay_moves.proofs.bays.Bay.power_on.Goals as goal

pub power_on-requires-clause-hand : goal.power_on-requires-clause-hand
power_on-requires-clause-hand g c = some_here g.D.Disk.state c.medium_of.result c.medium_of.ensures.keeps

pub invariant_of-result : goal.invariant_of-result
invariant_of-result g c =
    let state = g.D.Disk.state in
    let on = c.in-Ok.ensures.switched in record {
      cartridge =
          keeps_here state (medium_in c.in-Ok.drive.bay)
          (on_here state c.medium_of.result c.args.reservations c.args.store c.in-Ok.drive
          (kept_here state c.medium_of.result c.medium_of.ensures.keeps) on) c.known-in-Ok.ensures;
      reservations =
          c.reservations_outlive_each_stop.ensures.begins c.medium_of.result c.args.store c.args.reservations
          c.in-Ok.drive c.requires c.state.ensures.sound c.known.ensures.at_rest c.known.ensures.shows on;
    }

pub of_medium-requires-clause-hand : goal.of_medium-requires-clause-hand
of_medium-requires-clause-hand g c =
    let state = g.D.Disk.state in
    subst (λ (m : Option (BufferState g.row.D.Denot)). HereIn m) c.in-Some.is
    (off_here state c.medium_of.result c.args.reservations c.args.store
    (c.in-Err.medium, c.in-Err.store, c.in-Err.field-0-2)
    (kept_here state c.medium_of.result c.medium_of.ensures.keeps) c.in-Err.ensures.switched)

pub returns-in-Ok-clause-moments : goal.returns-in-Ok-clause-moments
returns-in-Ok-clause-moments g c =
    let state = g.D.Disk.state in
    let on = c.in-Ok.ensures.switched in
    let holding =
    c.reservations_outlive_each_stop.ensures.begins c.medium_of.result c.args.store c.args.reservations c.in-Ok.drive
    c.requires c.state.ensures.sound c.known.ensures.at_rest c.known.ensures.shows on in
    subst
    (λ (m : Option (BufferState g.row.D.Denot)). EveryMomentOn state m c.args.store c.in-Ok.drive)
    c.medium_of.ensures.same
    (on_moments state g.met.D.Disk.is_disk c.medium_of.result c.args.reservations c.args.store c.in-Ok.drive
    c.reservations_outlive_each_stop.ensures.gives c.medium_of.ensures.keeps holding on)

pub returns-after-medium-clause-moments_off : goal.returns-after-medium-clause-moments_off
returns-after-medium-clause-moments_off g c =
    let state = g.D.Disk.state in
    let same : c.match-medium.cartridge ≡ c.in-Err.medium =
    elim c.match-medium.branch [
      | in-Some w ↦
          w.cartridge-is ∙ ap (λ (m : BufferState g.row.D.Denot). Some m) w.of_medium.ensures ∙ sym w.in-Some.is
      | in-None w ↦ w.cartridge-is ∙ sym w.in-None.is
    ] in
    let there =
    off_moments state g.met.D.Disk.is_disk c.medium_of.result c.args.reservations c.args.store c.in-Err.medium
    c.in-Err.store c.in-Err.field-0-2 c.medium_of.ensures.keeps c.known.ensures.shows c.in-Err.ensures.switched in
    subst
    (λ (m : Option (BufferState g.row.D.Denot)).
    EveryMomentOff state c.args.cartridge c.args.store m c.in-Err.store)
    (sym same)
    (subst
    (λ (m : Option (BufferState g.row.D.Denot)).
    EveryMomentOff state m c.args.store c.in-Err.medium c.in-Err.store)
    c.medium_of.ensures.same there)
