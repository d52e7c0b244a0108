-- The disks of what is in a drive stay at hand.
use Rattle.std.proofs.Common.{◌≡◌, List, Bool, Option, None, Some, Result, Ok, Err, ap, sym, subst}
use Rattle.std.specs.Prelude.{IfSome}
use Rattle.vtl_base.specs.declared.faults.NoMemory.{NoMemory}
use Rattle.tape_disk.specs.Disk.{DiskState}
use Rattle.scsi_sense.specs.declared.replies.Reply.{Reply}
use Rattle.pr_core.specs.declared.states.PrState.{PrState}
use Rattle.volume_core.specs.declared.changes.Change.{Change}
use Rattle.volume_core.specs.declared.media.MediumError.{MediumError}
use Rattle.volume_core.specs.declared.media.MediumError.TheVariants as errors
use Rattle.drive_commands.specs.declared.bays.Bay.{Bay}
use Rattle.drive_commands.specs.declared.bays.Bay.TheVariants.{Empty, Unloaded, Loaded}
use Rattle.drive_commands.specs.Execute.{AdvancesIn}
use Rattle.drive_commands.specs.Load.{bay_when_on}
use Rattle.drive_commands.specs.Media.{GoesOutOf, SwitchesOn, TakesIn}
use Rattle.drive_commands.specs.State.{IsAtHand, medium_in}
use Rattle.aptpl_store.specs.State.{OpenStore}
use Rattle.tape_buffer.specs.Moves.{IsHere, buffer_below}
use Rattle.tape_buffer.specs.State.{BufferState, state_of}
use Rattle.bay_moves.specs.Bays.{KeepsCartridgeIn, ShowsCartridgeIn}
use Rattle.bay_moves.specs.Elements.{BayState}

-- of the medium that may be in a drive
abbrev pub HereIn : {D : Type 0} → Option (BufferState D) → Type 0
HereIn None = Unit {0}
HereIn (Some medium) = IsHere medium.held

abbrev pub HereBay : {D : Type 0} → Bay (BufferState D) → Type 0
HereBay bay = IsAtHand (λ m. IsHere m.held) bay

pub bay_here : {D : Type 0} (bay : Bay (BufferState D)) → HereIn (medium_in bay) → HereBay bay
bay_here Empty here = tt
bay_here (Unloaded m) here = here
bay_here (Loaded m) here = here

pub here_bay : {D : Type 0} (bay : Bay (BufferState D)) → HereBay bay → HereIn (medium_in bay)
here_bay Empty here = tt
here_bay (Unloaded m) here = here
here_bay (Loaded m) here = here

-- the medium of a drive that was just switched on is the one that was opened
abbrev in_some : {D : Type 0} → Option (Bay (BufferState D)) → Option (BufferState D)
in_some None = None
in_some (Some bay) = medium_in bay

pub opened_in : {D : Type 0} (woke : Result Unit MediumError) (opened : BufferState D) (bay : Bay (BufferState D))
    → bay_when_on woke opened ≡ Some bay → medium_in bay ≡ Some opened
opened_in (Ok done) opened bay is = ap in_some (sym is)
opened_in (Err errors.Failed) opened bay is = ap in_some (sym is)
opened_in (Err errors.Unreadable) opened bay is = ap in_some (sym is)
opened_in (Err errors.Device) opened bay is = ap in_some (sym is)
opened_in (Err errors.NoMemory) opened bay is = absurd (cc)
opened_in (Err errors.SideFull) opened bay is = absurd (cc)
opened_in (Err (errors.Refused refusal)) opened bay is = absurd (cc)

module _ {D : Type 0} (state : D → DiskState) where
  -- the invariant says so
  pub kept_here : (found : Option (BufferState D)) → KeepsCartridgeIn state found → HereIn found
  kept_here None keeps = tt
  kept_here (Some medium) keeps = keeps.hand

  pub kept_bay : (bay : Bay (BufferState D)) → KeepsCartridgeIn state (medium_in bay) → HereBay bay
  kept_bay bay keeps = bay_here bay (kept_here (medium_in bay) keeps)

  pub some_here : (found : Option (BufferState D)) → KeepsCartridgeIn state found
      → IfSome found (λ m. IsHere m.held)
  some_here None keeps = tt
  some_here (Some medium) keeps = keeps.hand

  -- and holds where they are
  pub keeps_here : (found : Option (BufferState D)) → HereIn found → ShowsCartridgeIn state found
      → KeepsCartridgeIn state found
  keeps_here None here shows = tt
  keeps_here (Some medium) here shows =
      record { hand = here; core = shows.core; whole = shows.whole; shows = shows.shows }

  -- no call of a medium takes them away
  pub advanced_here : (old new : Option (BufferState D)) (made : List Change) (fault : Bool) → HereIn old
      → AdvancesIn (buffer_below state) old made fault new → HereIn new
  advanced_here None None made fault here advances = tt
  advanced_here (Some a) (Some b) made fault here advances = advances.hand.0 here
  advanced_here None (Some b) made fault here advances = absurd advances
  advanced_here (Some a) None made fault here advances = absurd advances

  -- a medium is loaded, or returned
  pub loaded_here : (old : BayState D) (given : BufferState D) (result : Result Unit (BufferState D × Reply))
      (new : BayState D) → HereIn (medium_in old.bay) → IsHere given.held
      → TakesIn (state_of state) (buffer_below state) old given result new → HereIn (medium_in new.bay)
  loaded_here old given (Ok done) new here given_here takes =
      subst (λ (d : BayState D). HereIn (medium_in d.bay)) (sym takes.2) (takes.1.advances.hand.0 given_here)
  loaded_here old given (Err back) new here given_here takes =
      subst (λ (d : BayState D). HereIn (medium_in d.bay)) (sym takes.3) here

  pub back_here : (old : BayState D) (given : BufferState D) (back : BufferState D × Reply) (new : BayState D)
      → IsHere given.held → TakesIn (state_of state) (buffer_below state) old given (Err back) new
      → IsHere back.0.held
  back_here old given back new given_here takes = takes.1.advances.hand.0 given_here

  -- a medium is unloaded, or stays
  pub left_here : (bay : Bay (BufferState D)) (old : BayState D) (result : Result (BufferState D) Reply)
      (new : BayState D) → old.bay ≡ bay → HereIn (medium_in bay)
      → GoesOutOf (state_of state) (buffer_below state) bay old result new → HereIn (medium_in new.bay)
  left_here Empty old (Ok out) new is here goes = absurd goes
  left_here Empty old (Err reply) new is here goes =
      subst (λ (d : BayState D). HereIn (medium_in d.bay)) (sym goes.1)
      (subst (λ (b : Bay (BufferState D)). HereIn (medium_in b)) (sym is) tt)
  left_here (Unloaded m) old (Ok out) new is here goes =
      subst (λ (d : BayState D). HereIn (medium_in d.bay)) (sym goes.1) tt
  left_here (Unloaded m) old (Err reply) new is here goes = absurd goes
  left_here (Loaded m) old (Ok out) new is here goes =
      subst (λ (d : BayState D). HereIn (medium_in d.bay)) (sym goes.1) tt
  left_here (Loaded m) old (Err reply) new is here goes =
      subst (λ (d : BayState D). HereIn (medium_in d.bay)) (sym goes.3) (goes.1.2.hand.0 here)

  pub out_here : (bay : Bay (BufferState D)) (old : BayState D) (out : BufferState D) (new : BayState D)
      → old.bay ≡ bay → HereIn (medium_in bay)
      → GoesOutOf (state_of state) (buffer_below state) bay old (Ok out) new → IsHere out.held
  out_here Empty old out new is here goes = absurd goes
  out_here (Unloaded m) old out new is here goes = subst (λ (x : BufferState D). IsHere x.held) (sym goes.0) here
  out_here (Loaded m) old out new is here goes = goes.0.1.hand.0 here

  -- a drive is switched on over a medium, or it is returned
  pub on_here : (given : Option (BufferState D)) (reservations : PrState) (store : OpenStore D) (new : BayState D)
      → HereIn given → SwitchesOn (state_of state) (buffer_below state) given reservations store (Ok new)
      → HereIn (medium_in new.bay)
  on_here None reservations store new here on = subst (λ (d : BayState D). HereIn (medium_in d.bay)) (sym on) tt
  on_here (Some given) reservations store new here on =
      subst (λ (d : BayState D). HereIn (medium_in d.bay)) (sym on.5)
      (subst (λ (m : Option (BufferState D)). HereIn m) (sym (opened_in on.0 on.1 on.2 on.4))
      (on.3.advances.hand.0 here))

  pub off_here : (given : Option (BufferState D)) (reservations : PrState) (store : OpenStore D)
      (back : Option (BufferState D) × OpenStore D × NoMemory) → HereIn given
      → SwitchesOn (state_of state) (buffer_below state) given reservations store (Err back) → HereIn back.0
  off_here None reservations store back here off = absurd off
  off_here (Some given) reservations store back here off =
      subst (λ (m : Option (BufferState D)). HereIn m) (sym off.2) (off.1.advances.hand.0 here)
