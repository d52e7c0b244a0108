-- A cartridge that is followed through calls of the halves of its drive, and through moves.
use Rattle.std.specs.Prelude.{◌≡◌, ◌++◌, ℕ, List, [], ◌∷◌, Bool, true, Option, Some, Ok, Err}
use Rattle.tape_disk.specs.Disk.{DiskState}
use Rattle.scsi_sense.specs.declared.replies.Reply.{Reply}
use Rattle.volume_core.specs.declared.changes.Change.{Change}
use Rattle.drive_commands.specs.declared.bays.Bay.TheVariants.{Unloaded}
use Rattle.drive_commands.specs.Execute.{AdvancesIn}
use Rattle.drive_commands.specs.Media.{GoesOut, TakesIn}
use Rattle.drive_commands.specs.State.{machine_of, medium_in}
use Rattle.drive_commands.specs.Synchronize.{Acknowledges, IsSynchronizing}
use Rattle.drive_commands.specs.Work.{Request}
use Rattle.aptpl_store.specs.Kept.{store_kept}
use Rattle.tape_buffer.specs.Moves.{IsHere, buffer_below, with_changes}
use Rattle.tape_buffer.specs.State.{BufferState, state_of}
use Rattle.bay_moves.specs.Cartridges.{IsKnown}
use Rattle.bay_moves.specs.Elements.{BayState}
use Rattle.split_bay.specs.Halves.{Joins, Parts}
use Rattle.split_bay.specs.Rings.{SendingState}
use Rattle.split_runs.specs.Calls.{HalfCall, HalfStep, HalvesState, KeepsHalves, PartsAgain, StepsBoth, is_told, whole_medium}
use Rattle.split_runs.specs.Cores.{AcknowledgedStays, CoreMovesIn}

-- Where a cartridge is: in a drive, which stands in two halves, or outside of all drives (own).
pub data Place (D : Type 0) : Type 0 where
  InHalves : (halves : HalvesState D) → Place D
  Outside : (medium : BufferState D) → Place D

-- what is done to it (own)
pub data PlaceCall : Type 0 where
  -- a call of the halves of its drive
  Called : (call : HalfCall) → PlaceCall
  -- its drive is made of the halves, is used, and parts again
  Worked : PlaceCall
  -- it is taken out of its drive
  TakenOut : PlaceCall
  -- it is opened, and loaded into a drive, if it can be opened
  TakenIn : PlaceCall
  -- it is put into a drive, and not loaded
  PutIn : PlaceCall

module _ {D : Type 0} where
  -- the medium, with all that hosts accepted (own)
  abbrev pub medium_at : Place D → Option (BufferState D)
  medium_at (InHalves halves) = whole_medium halves
  medium_at (Outside medium) = Some medium

  -- whether hosts see that it has failed; outside of a drive its fault, if it has one, was reported (own)
  abbrev pub told_at : Place D → Bool
  told_at (InHalves halves) = is_told halves
  told_at (Outside medium) = true

module _ {D : Type 0} (state : D → DiskState) where
  -- a drive, whose hosts' half had this end of the ring, parts into these halves, which keep what their types keep;
  -- nothing waits (own)
  pub record PartsInto (bay : BayState D) (ends : SendingState) (halves : HalvesState D) : Type 0 where
    pub parts : Parts state bay ends halves.front halves.back
    pub again : PartsAgain state halves

  -- a drive is made of its halves, its medium goes on by a call of the drive, and the drive parts again (own)
  pub record StepsWorked (old : HalvesState D) (made : List Change) (new : HalvesState D) : Type 0 where
    pub joined : BayState D
    pub ends : SendingState
    pub joins : Joins state old.front old.back joined ends
    pub used : BayState D
    pub fault : Bool
    pub advances : AdvancesIn (buffer_below state) (medium_in joined.bay) made fault (medium_in used.bay)
    pub parted : PartsInto used ends new

  -- a drive is made of its halves, and its cartridge is taken out, as `Bay::unload` does (own)
  pub record StepsOut (old : HalvesState D) (out : BufferState D) : Type 0 where
    pub joined : BayState D
    pub ends : SendingState
    pub joins : Joins state old.front old.back joined ends
    pub left : BayState D
    pub goes : GoesOut (state_of state) (buffer_below state) joined (Ok out) left

  -- a cartridge is loaded into a drive, as `Bay::load` does, and the drive parts (own)
  pub record StepsIn (given : BufferState D) (new : HalvesState D) : Type 0 where
    pub empty : BayState D
    pub bay : BayState D
    pub ends : SendingState
    pub takes : TakesIn (state_of state) (buffer_below state) empty given (Ok tt) bay
    pub parted : PartsInto bay ends new

  -- a loading is refused, and the cartridge comes back (own)
  pub record StepsBack (given : BufferState D) (new : BufferState D) : Type 0 where
    pub empty : BayState D
    pub reply : Reply
    pub bay : BayState D
    pub takes : TakesIn (state_of state) (buffer_below state) empty given (Err (new, reply)) bay

  -- a cartridge is put into a drive, as `Bay::insert` does, and the drive parts (own)
  pub record StepsPut (given : BufferState D) (new : HalvesState D) : Type 0 where
    pub empty : BayState D
    pub bay : BayState D
    pub ends : SendingState
    pub inserted : bay ≡ record empty { bay = Unloaded given }
    pub parted : PartsInto bay ends new

  -- what is done leads from the old place to the new one, and exactly these changes are accepted (own)
  abbrev pub PlaceStep : Place D → PlaceCall → List Change → Place D → Type 0
  PlaceStep (InHalves old) (Called call) made (InHalves new) = HalfStep state old call made new
  PlaceStep (InHalves old) Worked made (InHalves new) = StepsWorked old made new
  PlaceStep (InHalves old) TakenOut made (Outside new) = StepsOut old new × (made ≡ [])
  PlaceStep (Outside old) TakenIn made (InHalves new) = StepsIn old new × (made ≡ [])
  PlaceStep (Outside old) TakenIn made (Outside new) = StepsBack old new × (made ≡ [])
  PlaceStep (Outside old) PutIn made (InHalves new) = StepsPut old new × (made ≡ [])
  PlaceStep _ call made _ = ⊥

  -- all this, each given what the one before it left (own)
  abbrev pub AllPlaceSteps : Place D → List PlaceCall → List Change → Place D → Type 0
  AllPlaceSteps old [] made new = (new ≡ old) × (made ≡ [])
  AllPlaceSteps old (call ∷ calls) made new =
      (between : Place D) × (first : List Change) × (rest : List Change)
      × PlaceStep old call first between × AllPlaceSteps between calls rest new × (made ≡ first ++ rest)

  -- what halves keep, where it is in a drive; outside its disks are at hand (own)
  abbrev pub KeepsPlace : Place D → Type 0
  KeepsPlace (InHalves halves) = KeepsHalves state halves
  KeepsPlace (Outside medium) = IsHere medium.held

  -- Over any list of calls and moves the core of a cartridge moves by steps from the first to the last, at every moment
  -- within (own).
  abbrev pub FollowedMoves : Type 0
  FollowedMoves =
      (old new : Place D) (calls : List PlaceCall) (made : List Change) → KeepsPlace old
      → AllPlaceSteps old calls made new
      → CoreMovesIn state (medium_at old) (told_at old) made (medium_at new) (told_at new) × KeepsPlace new

  -- The law of stops for a cartridge that is followed. It is known, beside what waits in the ring; then anything is
  -- done; then a synchronizing command is acknowledged by both halves of its drive; then anything is done, moves to
  -- other drives too. At every moment since a crash leaves a first part of the changes that it accepted, with all that
  -- were accepted up to the acknowledgement (own).
  abbrev pub FollowedStopsKeep : Type 0
  FollowedStopsKeep =
      (first last : Place D) (mid acked : HalvesState D) (before after : List PlaceCall)
      (made made' made'' : List Change) (medium : BufferState D) (request : Request) (reply : Reply) (left : List ℕ)
      → KeepsPlace first → (more : List Change)
      → medium_at first ≡ Some (with_changes medium more) → IsKnown state medium
      → AllPlaceSteps first before made (InHalves mid)
      → (step : StepsBoth state mid request reply left made' acked)
      → IsSynchronizing (machine_of (state_of state) store_kept step.executes.joined) request.cdb
      → Acknowledges reply
      → AllPlaceSteps (InHalves acked) after made'' last
      → AcknowledgedStays state (whole_medium acked) (is_told acked) made'' (medium_at last) (told_at last)
