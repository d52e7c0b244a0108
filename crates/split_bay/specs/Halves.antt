-- What calls do with both halves of a bay.
use Rattle.std.specs.Prelude.{◌≡◌, ◌⊎◌, ◌&&◌, ℕ, List, [], Bool, true, false, not, Result, Ok, Err}
use Rattle.tape_disk.specs.Disk.{DiskState}
use Rattle.scsi_sense.specs.declared.replies.Reply.{Reply}
use Rattle.volume_core.specs.declared.media.MediumError.{MediumError}
use Rattle.volume_core.specs.declared.media.MediumError.TheVariants as Errors
use Rattle.volume_core.specs.declared.media.Turn.{Turn}
use Rattle.volume_core.specs.declared.media.Turn.TheVariants.{Device}
use Rattle.volume_core.specs.Medium.{MediumState}
use Rattle.drive_commands.specs.declared.bays.Bay.{Bay}
use Rattle.drive_commands.specs.declared.bays.Bay.TheVariants.{Loaded}
use Rattle.drive_commands.specs.Events.{FlushTurn}
use Rattle.drive_commands.specs.Execute.{HonestIn}
use Rattle.drive_commands.specs.Media.{TakesTurn}
use Rattle.drive_commands.specs.Relations.{made_nothing}
use Rattle.drive_commands.specs.State.{IsBayPositioned, bay_of, has_failed_in, machine_of, medium_in}
use Rattle.drive_commands.specs.Synchronize.{Acknowledges, IsSynchronizing, NothingPending}
use Rattle.drive_commands.specs.Work.{Request}
use Rattle.aptpl_store.specs.Kept.{store_kept}
use Rattle.tape_buffer.specs.Moves.{buffer_below}
use Rattle.tape_buffer.specs.State.{state_of}
use Rattle.bay_moves.specs.Bays.{AnswersLentInEvent, EveryMoment, IsSafeIn, KeepsBoth}
use Rattle.bay_moves.specs.Elements.{BayState}
use Rattle.split_bay.specs.Backs.{BackState, FollowsIn, KeepsDiskHalf, is_stuck_in}
use Rattle.split_bay.specs.Both.{AttachesIn, BeginsNext, DetachesIn}
use Rattle.split_bay.specs.Fronts.{FrontState, IsFrontOf, KeepsHostsHalf, lacks_room_in}
use Rattle.split_bay.specs.Looks.{Looks, deferred_after, fails_anew}
use Rattle.split_bay.specs.Rings.{SendingState}
use Rattle.split_bay.specs.Spans.{span_of}

-- what is loaded has stored all that it accepted, or has failed (own)
abbrev pub IsStoredIn : Bay MediumState → Type 0
IsStoredIn (Loaded medium) = (medium.pending ≡ []) ⊎ (medium.failed ≡ true)
IsStoredIn _ = Unit {0}

-- why there is no room, where all was to be stored in this turn: the device failed, or memory ran out (own)
abbrev pub no_room_of : Turn → MediumError
no_room_of Device = Errors.Device
no_room_of _ = Errors.NoMemory

module _ {D : Type 0} (state : D → DiskState) where
  -- The disks are brought back to the drive, which is found as it then is: a fault that was not reported
  -- establishes a deferred error (own).
  pub record Joins (front : FrontState D) (back : BackState D) (bay : BayState D) (ends : SendingState) : Type 0 where
    pub ends_are : ends ≡ front.sending
    pub attaches : AttachesIn state front.sending.sent back.received back.medium front.drive.bay bay.bay
    pub found :
        bay ≡ record front.drive {
          bay = bay.bay;
          deferred = deferred_after (fails_anew (bay_of (state_of state) front.drive.bay)
              (bay_of (state_of state) bay.bay)) front.drive.deferred;
        }
    pub looks :
        Looks (machine_of (state_of state) store_kept front.drive) (machine_of (state_of state) store_kept bay)

  -- The disks of a drive go away, and a span begins: all that was sent is received. The drive is the same, and so is
  -- the machine that hosts see. Both halves stand for the span, which says how much may be sent in it (own).
  pub record Parts (bay : BayState D) (ends : SendingState) (front : FrontState D) (back : BackState D) : Type 0 where
    pub begins : BeginsNext ends front.sending
    pub detaches : DetachesIn state bay.bay back.medium front.drive.bay
    pub same : front.drive ≡ record bay { bay = front.drive.bay }
    pub machine :
        machine_of (state_of state) store_kept front.drive ≡ machine_of (state_of state) store_kept bay
    pub number : back.number ≡ front.sending.number
    pub level : back.received ≡ front.sending.sent
    pub stands : IsFrontOf front.drive.bay (span_of front.sending.sent)
    pub follows : FollowsIn state back.medium (span_of back.received)

  -- The disks are brought back, the drive becomes another one, and the disks go away again. Halves and drive keep what
  -- their types keep (own).
  pub record HoldsHalves
      (front : FrontState D) (back : BackState D) (joined left : BayState D) (front' : FrontState D)
      (back' : BackState D) : Type 0 where
    pub front_keeps : KeepsHostsHalf state front
    pub back_keeps : KeepsDiskHalf state back
    pub joins : Joins front back joined front.sending
    pub joined_keeps : KeepsBoth state joined
    pub stood : IsBayPositioned (state_of state) joined.bay joined.position
    pub keeps : KeepsBoth state left
    pub positioned : IsBayPositioned (state_of state) left.bay left.position
    pub parts : Parts left front.sending front' back'

  -- A host is answered by both halves of a bay as by the bay that they are together. Before a synchronizing command is
  -- acknowledged all is stored, and all that was accepted is safe (own).
  pub record ExecutesBoth
      (front : FrontState D) (back : BackState D) (request : Request) (reply : Reply) (left : List ℕ)
      (front' : FrontState D) (back' : BackState D) : Type 0 where
    pub joined : BayState D
    pub answered : BayState D
    pub holds : HoldsHalves front back joined answered front' back'
    pub answers : AnswersLentInEvent state joined request reply answered left
    pub settled :
        IsSynchronizing (machine_of (state_of state) store_kept joined) request.cdb → Acknowledges reply
        → NothingPending (HonestIn (buffer_below state) (medium_in joined.bay))
        (machine_of (state_of state) store_kept answered)
    pub safe :
        IsSynchronizing (machine_of (state_of state) store_kept joined) request.cdb → Acknowledges reply
        → HonestIn (buffer_below state) (medium_in joined.bay) → IsSafeIn state (medium_in answered.bay)

  -- The bay that both halves are together takes a flusher's turn. At each moment of it a crash leaves what its event
  -- says (own).
  pub record SettlesBoth
      (front : FrontState D) (back : BackState D) (turn : Turn) (front' : FrontState D) (back' : BackState D)
      : Type 0 where
    pub joined : BayState D
    pub settled : BayState D
    pub holds : HoldsHalves front back joined settled front' back'
    pub turned : TakesTurn (state_of state) (buffer_below state) store_kept joined turn settled
    pub moments :
        EveryMoment state joined FlushTurn made_nothing (medium_in joined.bay) (medium_in settled.bay) settled

  -- The disks were brought back, and went away again, and yet no change may be sent to a medium that works. So all that
  -- was accepted is stored, by a turn of the whole drive; or the device failed (own).
  pub record LeavesNoRoom
      (front : FrontState D) (back : BackState D) (error : MediumError) (front' : FrontState D) (back' : BackState D)
      : Type 0 where
    pub joined : BayState D
    pub between : FrontState D
    pub between' : BackState D
    pub holds : HoldsHalves front back joined joined between between'
    pub lacks : lacks_room_in (medium_in between.drive.bay) ≡ true
    pub turn : Turn
    pub settles : SettlesBoth between between' turn front' back'
    pub error_is : error ≡ no_room_of turn
    pub stored : IsStoredIn (bay_of (state_of state) front'.drive.bay)

  -- The disks are brought back, and go away again, so that changes may be sent again; or it lacks room for that (own).
  abbrev pub MakesRoom :
      FrontState D → BackState D → Result Unit MediumError → FrontState D → BackState D → Type 0
  MakesRoom front back (Ok done) front' back' =
      (joined : BayState D) × HoldsHalves front back joined joined front' back'
      × (lacks_room_in (medium_in front'.drive.bay) ≡ false)
  MakesRoom front back (Err error) front' back' = LeavesNoRoom front back error front' back'

  -- a fault of the disk's half that was not reported: what is loaded has failed, and hosts do not see that yet (own)
  abbrev pub is_unreported : FrontState D → BackState D → Bool
  is_unreported front back = is_stuck_in state back.medium && not (has_failed_in (state_of state) front.drive.bay)

  -- A fault of the disk's half is reported: the disks are brought back, looked at, and go away again. A deferred error
  -- is established, and hosts see that what is loaded has failed (own).
  pub record ReportsFault (front : FrontState D) (back : BackState D) (front' : FrontState D) (back' : BackState D)
      : Type 0 where
    pub joined : BayState D
    pub holds : HoldsHalves front back joined joined front' back'
    pub deferred : front'.drive.deferred ≡ true
    pub failed : has_failed_in (state_of state) front'.drive.bay ≡ true

  -- the same where there is such a fault; else nothing has changed (own)
  abbrev pub ReportsBoth : Bool → FrontState D → BackState D → FrontState D → BackState D → Type 0
  ReportsBoth false front back front' back' = (front' ≡ front) × (back' ≡ back)
  ReportsBoth true front back front' back' = ReportsFault front back front' back'
