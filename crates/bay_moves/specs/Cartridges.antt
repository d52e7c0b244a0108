-- What a stop leaves of the cartridge in a drive.
use Rattle.std.specs.Prelude.{◌≡◌, List, Option, Some}
use Rattle.vtl_base.specs.Below.{Below}
use Rattle.tape_disk.specs.Disk.{DiskState}
use Rattle.tape_disk.specs.TwoDisks.{AreHonest, EachOfTwo, TwoDisks, TwoLeave}
use Rattle.scsi_sense.specs.declared.replies.Reply.{Reply}
use Rattle.pr_core.specs.declared.states.PrState.{PrState}
use Rattle.pr_core.specs.Keepers.{KeeperState}
use Rattle.volume_core.specs.declared.changes.Change.{Change}
use Rattle.accepted_changes.specs.Core.{CanAcknowledge, IsCore}
use Rattle.accepted_changes.specs.Device.{two_disks}
use Rattle.accepted_changes.specs.Events.{GivesAcknowledged, IsEvent, ShowsCore}
use Rattle.tape_buffer.specs.Rules.{medium_rules}
use Rattle.tape_buffer.specs.Moves.{buffer_below, medium_core}
use Rattle.tape_buffer.specs.State.{BufferState, disks_in, state_of}
use Rattle.drive_commands.specs.State.{DriveState, IsBayPositioned, machine_of, medium_in}
use Rattle.drive_commands.specs.Relations.{Made}
use Rattle.drive_commands.specs.Work.{Request}
use Rattle.drive_commands.specs.Execute.{Answers, HonestIn}
use Rattle.drive_commands.specs.Events.{Event, OfDrive}
use Rattle.drive_commands.specs.Synchronize.{Acknowledges, IsSynchronizing, NothingPending}
use Rattle.bay_moves.specs.Events.{DoesAll}

module _ {D : Type 0} (state : D → DiskState) where
  -- The facts of a medium over two honest disks: what is safe is stored, what is stored was accepted, and each pair of
  -- images that a crash may leave now gives what is safe, or what is stored (own).
  pub record IsKnown (medium : BufferState D) : Type 0 where
    pub disks : TwoDisks D
    pub disks_are : disks_in medium.held ≡ Some disks
    pub honest : AreHonest state disks
    pub core : IsCore (medium_core state medium)
    pub shows : EachOfTwo state disks (ShowsCore medium_rules (medium_core state medium))

  -- From one medium to a later one exactly these changes were accepted. In the first, all that was accepted is safe. At
  -- each moment since, a crash leaves a pair of images that gives all of it and a first part of the changes accepted
  -- since, from the same base (own).
  pub record KeepsAcknowledged (acked last : BufferState D) (made : List Change) : Type 0 where
    pub before : TwoDisks D
    pub disks_before : disks_in acked.held ≡ Some before
    pub after : TwoDisks D
    pub disks_after : disks_in last.held ≡ Some after
    pub all_safe : CanAcknowledge (medium_core state acked)
    pub event : IsEvent medium_rules (two_disks state) before after (medium_core state acked) (medium_core state last)
        made
    pub moments :
        TwoLeave state before after (GivesAcknowledged medium_rules (medium_core state acked) event.steps)

  -- the same for the media in two bays (own)
  abbrev pub KeepsIn : Option (BufferState D) → Option (BufferState D) → List Change → Type 0
  KeepsIn (Some acked) (Some last) made = KeepsAcknowledged acked last made
  KeepsIn _ _ made = ⊥

module _ {D K : Type 0} (state : D → DiskState) (kept : K → KeeperState) (keeps : Below K PrState) where
  -- A drive with a known medium in it acknowledges a synchronizing command; then any commands and turns follow. What
  -- was accepted up to the acknowledgement survives a stop at any moment (own).
  abbrev pub StopsKeepChanges : Type 0
  StopsKeepChanges =
      (old acked new : DriveState (BufferState D) K) (medium : BufferState D)
      (request : Request) (reply : Reply) (events : List (Event OfDrive)) (replies : List (Option Reply)) (made : Made)
      → medium_in old.bay ≡ Some medium → IsKnown state medium
      → Answers (state_of state) (buffer_below state) kept keeps old request reply acked
      → IsSynchronizing (machine_of (state_of state) kept old) request.cdb → Acknowledges reply
      → NothingPending (HonestIn (buffer_below state) (medium_in old.bay)) (machine_of (state_of state) kept acked)
      → IsBayPositioned (state_of state) acked.bay acked.position
      → DoesAll (state_of state) (buffer_below state) kept keeps acked events replies made new
      → KeepsIn state (medium_in acked.bay) (medium_in new.bay) made.changes
