-- The disks of what is in a drive stay at hand.
use Rattle.std.proofs.Common.{List, Bool, Option, None, Some, Result, Ok, Err, ap, sym, subst}
use Rattle.vtl_base.specs.Below.{Below}
use Rattle.pr_core.specs.declared.states.PrState.{PrState}
use Rattle.volume_core.specs.declared.changes.Change.{Change}
use Rattle.volume_core.specs.declared.media.MediumError.{MediumError}
use Rattle.volume_core.specs.declared.media.MediumError.TheVariants as errors
use Rattle.volume_core.specs.Medium.{MediumState}
use Rattle.drive_commands.specs.declared.bays.Bay.{Bay}
use Rattle.drive_commands.specs.declared.bays.Bay.TheVariants.{Empty, Unloaded, Loaded}
use Rattle.drive_commands.specs.Execute.{AdvancesIn}
use Rattle.drive_commands.specs.Load.{bay_when_on}
use Rattle.drive_commands.specs.Media.{SwitchesOn}
use Rattle.drive_commands.specs.State.{DriveState, IsAtHand, medium_in}

module _ {M : Type 0} (below : Below M Change) where
  -- after a command, or a turn
  pub here_still : (old new : Bay M) (made : List Change) (fault : Bool) → IsAtHand below.at_hand old
      → AdvancesIn below (medium_in old) made fault (medium_in new) → IsAtHand below.at_hand new
  here_still Empty Empty made fault here advances = tt
  here_still (Unloaded m) (Unloaded n) made fault here advances = advances.hand.0 here
  here_still (Unloaded m) (Loaded n) made fault here advances = advances.hand.0 here
  here_still (Loaded m) (Unloaded n) made fault here advances = advances.hand.0 here
  here_still (Loaded m) (Loaded n) made fault here advances = advances.hand.0 here
  here_still Empty (Unloaded n) made fault here advances = absurd advances
  here_still Empty (Loaded n) made fault here advances = absurd advances
  here_still (Unloaded m) Empty made fault here advances = absurd advances
  here_still (Loaded m) Empty made fault here advances = absurd advances

  abbrev HereWhere : Option (Bay M) → Type 0
  HereWhere None = Unit {0}
  HereWhere (Some bay) = IsAtHand below.at_hand bay

  here_on : (woke : Result Unit MediumError) (opened : M) → below.at_hand opened → HereWhere (bay_when_on woke opened)
  here_on (Ok done) opened here = here
  here_on (Err errors.Failed) opened here = here
  here_on (Err errors.Unreadable) opened here = here
  here_on (Err errors.Device) opened here = here
  here_on (Err errors.NoMemory) opened here = tt
  here_on (Err errors.SideFull) opened here = tt
  here_on (Err (errors.Refused refusal)) opened here = tt

  -- as it is switched on
  pub here_first : {K : Type 0} (state : M → MediumState) (given : M) (reservations : PrState) (keeper : K)
      (new : DriveState M K) → below.at_hand given → SwitchesOn state below (Some given) reservations keeper (Ok new)
      → IsAtHand below.at_hand new.bay
  here_first state given reservations keeper new here on =
      subst (λ (b : Bay M). IsAtHand below.at_hand b) (sym (ap (λ (d : DriveState M _). d.bay) on.5))
      (subst HereWhere on.4 (here_on on.0 on.1 (on.3.advances.hand.0 here)))
