-- Writing out all that is pending.
use Rattle.std.specs.Prelude.{◌≡◌, ◌⊎◌, ℕ, [], true, false, Option, None, Some, Result, OnOk, OnErr}
use Rattle.tape_disk.specs.Disk.{DiskState}
use Rattle.volume_core.specs.declared.media.Turn.{Turn}
use Rattle.drive_commands.specs.declared.bays.Bay.{Bay}
use Rattle.drive_commands.specs.declared.bays.Bay.TheVariants.{Loaded}
use Rattle.drive_commands.specs.Media.{TakesTurn}
use Rattle.drive_commands.specs.Relations.{made_nothing}
use Rattle.drive_commands.specs.State.{medium_in}
use Rattle.tape_buffer.specs.Moves.{buffer_below}
use Rattle.tape_buffer.specs.State.{BufferState, state_of}
use Rattle.aptpl_store.specs.Kept.{store_kept}
use Rattle.bay_moves.specs.Bays.{EveryMoment}
use Rattle.bay_moves.specs.Elements.{BayState, HeldState, bay_at}
use Rattle.drive_commands.specs.Events.{FlushTurn}
use Rattle.bay_moves.specs.declared.finishing.Unwritten.{Unwritten}

module _ {D : Type 0} (state : D → DiskState) where
  -- the loaded medium has failed (own)
  abbrev pub HasFailedIn : Bay (BufferState D) → Type 0
  HasFailedIn (Loaded medium) = (state_of state medium).failed ≡ true
  HasFailedIn _ = ⊥

  -- the loaded medium, if there is one, has not failed, and all that it accepted is stored (own)
  abbrev pub IsWrittenIn : Bay (BufferState D) → Type 0
  IsWrittenIn (Loaded medium) = ((state_of state medium).failed ≡ false) × ((state_of state medium).pending ≡ [])
  IsWrittenIn _ = Unit {0}

  -- the loaded medium has failed, or a deferred error stands (own)
  abbrev pub HasFailed : BayState D → Type 0
  HasFailed bay = HasFailedIn bay.bay ⊎ (bay.deferred ≡ true)

  -- all that the loaded medium accepted is stored, and no deferred error stands (own)
  abbrev pub IsAllWritten : BayState D → Type 0
  IsAllWritten bay = IsWrittenIn bay.bay × (bay.deferred ≡ false)

  -- a drive, if there is one, takes a flusher's turn, and its event says what is left at every moment of it (own)
  abbrev pub TurnsAt : Option (BayState D) → Option (BayState D) → Type 0
  TurnsAt None None = Unit {0}
  TurnsAt (Some old) (Some new) =
      (turn : Turn) × TakesTurn (state_of state) (buffer_below state) store_kept old turn new
      × EveryMoment state old FlushTurn made_nothing (medium_in old.bay) (medium_in new.bay) new
  TurnsAt _ _ = ⊥

  -- the drive, if there is one, has nothing left to write, and no deferred error stands (own)
  abbrev pub IsWrittenAt : Option (BayState D) → Type 0
  IsWrittenAt None = Unit {0}
  IsWrittenAt (Some bay) = IsAllWritten bay

  -- there is a drive, and its loaded medium has failed, or a deferred error of it stands (own)
  abbrev pub HasFailedAt : Option (BayState D) → Type 0
  HasFailedAt None = ⊥
  HasFailedAt (Some bay) = HasFailed bay

  -- Every drive takes a turn, and the slots stay. Then nothing is left to write and no deferred error stands, or some
  -- drive has failed (own).
  pub record WritesOut (old : HeldState D) (result : Result Unit Unwritten) (new : HeldState D) : Type 0 where
    pub turns : (number : ℕ) → TurnsAt (bay_at old.bays number) (bay_at new.bays number)
    pub slots : new.slots ≡ old.slots
    pub ok : OnOk result ((number : ℕ) → IsWrittenAt (bay_at new.bays number))
    pub err : OnErr result ((number : ℕ) × HasFailedAt (bay_at new.bays number))
