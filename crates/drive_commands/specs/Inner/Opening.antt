-- The opening and the parking of a medium.
use Rattle.std.specs.Prelude.{◌≡◌, true, false, Result, Ok, Err, Some}
use Rattle.vtl_base.specs.Below.{Below}
use Rattle.volume_core.specs.declared.changes.Change.{Change}
use Rattle.volume_core.specs.declared.media.MediumError.{MediumError}
use Rattle.volume_core.specs.declared.media.MediumError.TheVariants as Errors
use Rattle.volume_core.specs.Medium.{MediumState}
use Rattle.drive_commands.specs.declared.bays.Bay.{Bay}
use Rattle.drive_commands.specs.Load.{bay_when_on}
use Rattle.drive_commands.specs.Media.{WakesAs}

module _ {M : Type 0} (state : M → MediumState) (below : Below M Change) where
  -- a medium was asked to open, and stands in this bay; or comes back, since memory ran out
  abbrev pub OpensInto : M → Result (Bay M) M → Type 0
  OpensInto given (Ok bay) =
      (woke : Result Unit MediumError) × (opened : M)
      × WakesAs state below given woke opened × (bay_when_on woke opened ≡ Some bay)
  OpensInto given (Err back) = WakesAs state below given (Err Errors.NoMemory) back

  -- a parked medium was opened; or comes back, parked, with the cause
  abbrev pub WakesTo : M → Result M (M × MediumError) → Type 0
  WakesTo given (Ok opened) = WakesAs state below given (Ok tt) opened × ((state opened).awake ≡ true)
  WakesTo given (Err back) = WakesAs state below given (Err back.1) back.0 × ((state back.0).awake ≡ false)
