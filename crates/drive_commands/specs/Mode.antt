-- MODE SELECT and MODE SENSE.
use Rattle.std.specs.Prelude.{◌≡◌, ℕ, List, [], Option, None, Some, Bool, true, false, Result, Ok, Err}
use Rattle.scsi_attention.specs.declared.attention_sets.Attention.TheVariants.{ModeChanged}
use Rattle.scsi_attention.specs.Attentions.{established_for_others}
use Rattle.scsi_sense.specs.declared.sense_data.Sense.{Sense}
use Rattle.scsi_sense.specs.Replies.{good_with, check_with}
use Rattle.scsi_lists.specs.declared.mode_lists.ModeList.{ModeList}
use Rattle.scsi_lists.specs.ModeLists.{mode_data, mode_decoded}
use Rattle.scsi_opcodes.specs.Answers.{cut_to}
use Rattle.drive_commands.specs.State.{DriveState}
use Rattle.drive_commands.specs.Relations.{MachineRelation, RepliesAlone, made_nothing}
use Rattle.drive_commands.specs.Giving.{GivesData}

-- A drive with this buffered mode. A unit attention condition is established for every nexus but this one (SPC-4, MODE
-- SELECT; SSC-4, buffered mode).
abbrev pub changed_mode : {M K : Type 0} → Bool → ℕ → DriveState M K → DriveState M K
changed_mode buffered nexus drive = record drive {
  buffered = buffered;
  attentions = established_for_others drive.attentions nexus ModeChanged;
}

-- A drive once a nexus has asked for a buffered mode. Where the drive has this mode already, no condition is
-- established (SPC-4, MODE SELECT; SSC-4, buffered mode).
abbrev pub in_mode : {M K : Type 0} → Bool → Bool → ℕ → DriveState M K → DriveState M K
in_mode true true nexus drive = drive
in_mode false false nexus drive = drive
in_mode old asked nexus drive = changed_mode asked nexus drive

-- a drive once a nexus has sent a list that asks for this mode, or for none (SPC-4, MODE SELECT)
abbrev pub in_asked_mode : {M K : Type 0} → Option Bool → ℕ → DriveState M K → DriveState M K
in_asked_mode None nexus drive = drive
in_asked_mode (Some buffered) nexus drive = in_mode drive.buffered buffered nexus drive

-- by what the list says: it is refused, or asks for a mode, or for none (SPC-4, MODE SELECT)
abbrev pub ModeSelectOf : Result ModeList Sense → ℕ → MachineRelation
ModeSelectOf (Err sense) nexus old answer made new = RepliesAlone (check_with sense []) old answer made new
ModeSelectOf (Ok list) nexus old answer made new =
    (answer ≡ Ok (good_with [])) × (made ≡ made_nothing) × (new ≡ in_asked_mode list.buffered nexus old)

-- the parameter list that a nexus sent is read, and the mode is as it asks (SPC-4, MODE SELECT)
abbrev pub ModeSelectWork : ℕ → List ℕ → MachineRelation
ModeSelectWork nexus sent old answer made new = ModeSelectOf (mode_decoded sent) nexus old answer made new

-- the mode is given, with a block descriptor or without one, cut to the room that the host has (SPC-4, MODE SENSE)
abbrev pub ModeSenseWork : Bool → ℕ → MachineRelation
ModeSenseWork bare room old answer made new = GivesData (cut_to room (mode_data old.buffered bare)) old answer made new
