-- Commands of hosts to the drives of a library.
use Rattle.std.specs.Prelude.{◌≡◌, ℕ, false, Some}
use Rattle.tape_disk.specs.Disk.{DiskState}
use Rattle.scsi_sense.specs.declared.replies.Reply.{Reply}
use Rattle.drive_commands.specs.Execute.{Answers, HonestIn}
use Rattle.drive_commands.specs.State.{IsBayPositioned, machine_of, medium_in}
use Rattle.drive_commands.specs.Synchronize.{Acknowledges, IsSynchronizing, NothingPending}
use Rattle.drive_commands.specs.Work.{Request}
use Rattle.tape_buffer.specs.Moves.{buffer_below}
use Rattle.tape_buffer.specs.State.{state_of}
use Rattle.aptpl_store.specs.Kept.{store_below, store_kept}
use Rattle.element_slots.specs.Slots.{is_slot}
use Rattle.bay_moves.specs.Bays.{EveryMoment, IsSafeIn, KeepsCartridgeIn}
use Rattle.bay_moves.specs.Elements.{BayState, HeldState, bay_at}
use Rattle.bay_moves.specs.Moves.{BayIs}
use Rattle.drive_commands.specs.Events.{Execute}

module _ {D : Type 0} (state : D → DiskState) where
  -- The drive of this number, which is no slot's address, answers a host, and nothing else changes. The command's event
  -- says what is left at every moment inside it. Before the drive acknowledges a synchronizing command, all is stored,
  -- and all that its cartridge accepted is safe (own).
  pub record Commands (number : ℕ) (request : Request) (old : HeldState D) (reply : Reply) (new : HeldState D) : Type
      0 where
    pub bay : BayState D
    pub is : bay_at old.bays number ≡ Some bay
    pub left : BayState D
    pub step : Answers (state_of state) (buffer_below state) store_kept (store_below state) bay request reply left
    pub settled :
        IsSynchronizing (machine_of (state_of state) store_kept bay) request.cdb → Acknowledges reply
        → NothingPending (HonestIn (buffer_below state) (medium_in bay.bay))
        (machine_of (state_of state) store_kept left)
    pub now : BayIs number left old new
    pub number_is : is_slot number ≡ false
    pub keeps : KeepsCartridgeIn state (medium_in bay.bay)
    pub positioned : IsBayPositioned (state_of state) bay.bay bay.position
    pub moments :
        EveryMoment state bay (Execute request) step.taken.made (medium_in bay.bay)
        (medium_in left.bay) left
    pub safe :
        IsSynchronizing (machine_of (state_of state) store_kept bay) request.cdb → Acknowledges reply
        → HonestIn (buffer_below state) (medium_in bay.bay) → IsSafeIn state (medium_in left.bay)
