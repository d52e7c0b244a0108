-- How the core of a cartridge moves while the halves of its drive are called.
use Rattle.std.specs.Prelude.{◌≡◌, ℕ, List, [], Bool, Option, None, Some}
use Rattle.tape_disk.specs.Disk.{DiskState}
use Rattle.tape_disk.specs.TwoDisks.{TwoDisks, TwoLeave}
use Rattle.scsi_sense.specs.declared.replies.Reply.{Reply}
use Rattle.volume_core.specs.declared.changes.Change.{Change}
use Rattle.cartridge.specs.Contents.{Start}
use Rattle.accepted_changes.specs.Core.{CanAcknowledge, Core, IsPrefix}
use Rattle.accepted_changes.specs.Device.{two_disks}
use Rattle.accepted_changes.specs.Events.{GivesAcknowledged, IsEvent}
use Rattle.drive_commands.specs.State.{machine_of}
use Rattle.drive_commands.specs.Synchronize.{Acknowledges, IsSynchronizing}
use Rattle.drive_commands.specs.Work.{Request}
use Rattle.aptpl_store.specs.Kept.{store_kept}
use Rattle.tape_buffer.specs.Moves.{MovesOn, as_told, medium_core}
use Rattle.tape_buffer.specs.Rules.{medium_rules}
use Rattle.tape_buffer.specs.State.{BufferState, disks_in, state_of}
use Rattle.tape_buffer.specs.Taking.{DisksState}
use Rattle.bay_moves.specs.Cartridges.{IsKnown}
use Rattle.split_runs.specs.Calls.{AllHalfSteps, HalfCall, HalvesState, KeepsHalves, StepsBoth, is_told, whole_medium}

module _ {D : Type 0} (state : D → DiskState) where
  -- From one medium, whose fault was reported or not, to another exactly these changes were accepted, by the steps of
  -- one event, with every moment of it; without a medium none (own).
  abbrev pub CoreMovesIn :
      Option (BufferState D) → Bool → List Change → Option (BufferState D) → Bool → Type 0
  CoreMovesIn (Some old) told made (Some new) told' =
      MovesOn state (disks_in old.held) (disks_in new.held) (as_told told (medium_core state old))
      (as_told told' (medium_core state new)) made
  CoreMovesIn None told made None told' = made ≡ []
  CoreMovesIn _ told made _ told' = ⊥

  -- the core of the cartridge moves from that of the old halves to that of the new ones (own)
  abbrev pub HalvesMove : HalvesState D → List Change → HalvesState D → Type 0
  HalvesMove old made new = CoreMovesIn (whole_medium old) (is_told old) made (whole_medium new) (is_told new)

  -- Over any list of calls of the halves: the cartridge's core moves by steps from the first to the last, at every
  -- moment within; and the halves keep what they kept (own).
  abbrev pub RunsOfHalvesMove : Type 0
  RunsOfHalvesMove =
      (old new : HalvesState D) (calls : List HalfCall) (made : List Change) → KeepsHalves state old
      → AllHalfSteps state old calls made new → HalvesMove old made new × KeepsHalves state new

  -- Over these disks, from an old core, in which all that was accepted is safe, exactly these were accepted. At each
  -- moment since, a crash leaves a pair of images that gives all that the old core had accepted, and a first part of
  -- what was accepted since. What is accepted in the end begins with what the old core had accepted (own).
  pub record AcknowledgedLeft
      (disks : TwoDisks D) (old : Core Start Change) (made : List Change) (disks' : TwoDisks D)
      (new : Core Start Change) : Type 0 where
    pub all_safe : CanAcknowledge old
    pub event : IsEvent medium_rules (two_disks state) disks disks' old new made
    pub moments : TwoLeave state disks disks' (GivesAcknowledged medium_rules old event.steps)
    pub kept : IsPrefix old.accepted new.accepted

  -- the same of disks that may be there: they are (own)
  abbrev pub LeavesAcknowledged :
      Option (TwoDisks D) → Core Start Change → List Change → Option (TwoDisks D) → Core Start Change → Type 0
  LeavesAcknowledged (Some disks) old made (Some disks') new = AcknowledgedLeft disks old made disks' new
  LeavesAcknowledged _ old made _ new = ⊥

  -- the same from one medium, whose fault was reported or not, to another (own)
  abbrev pub AcknowledgedStays :
      Option (BufferState D) → Bool → List Change → Option (BufferState D) → Bool → Type 0
  AcknowledgedStays (Some old) told made (Some new) told' =
      LeavesAcknowledged (disks_in old.held) (as_told told (medium_core state old)) made (disks_in new.held)
      (as_told told' (medium_core state new))
  AcknowledgedStays _ told made _ told' = ⊥

  -- Two halves with a known medium are called, any calls in any order; then a synchronizing command is acknowledged;
  -- then any calls follow. At every moment since, inside a later call too, a crash leaves a first part of the changes
  -- that the cartridge accepted, with all that were accepted up to the acknowledgement; and what is accepted in the end
  -- begins with these (own).
  abbrev pub StopsOfHalvesKeep : Type 0
  StopsOfHalvesKeep =
      (first mid acked last : HalvesState D) (before after : List HalfCall) (made made' made'' : List Change)
      (medium : DisksState D) (request : Request) (reply : Reply) (left : List ℕ)
      → KeepsHalves state first → first.back.medium ≡ Some medium → IsKnown state medium.buffer
      → AllHalfSteps state first before made mid
      → (step : StepsBoth state mid request reply left made' acked)
      → IsSynchronizing (machine_of (state_of state) store_kept step.executes.joined) request.cdb
      → Acknowledges reply
      → AllHalfSteps state acked after made'' last
      → AcknowledgedStays (whole_medium acked) (is_told acked) made'' (whole_medium last) (is_told last)
