-- REQUEST SENSE.
use Rattle.std.specs.Prelude.{◌≡◌, ℕ, Option, None, Some, Result, Ok, Err}
use Rattle.scsi_sense.specs.declared.replies.Reply.{Reply}
use Rattle.scsi_sense.specs.declared.sense_data.Sense.{Sense}
use Rattle.scsi_sense.specs.SenseData.{sense_bytes}
use Rattle.scsi_sense.specs.Senses.{no_sense}
use Rattle.scsi_opcodes.specs.Answers.{cut_to}
use Rattle.drive_commands.specs.declared.conditions.Condition.{Condition}
use Rattle.drive_commands.specs.declared.faults.Fault.{Fault}
use Rattle.drive_commands.specs.State.{Machine, DriveState}
use Rattle.drive_commands.specs.Conditions.{condition_due, condition_sense, without_condition}
use Rattle.drive_commands.specs.Relations.{MachineRelation, made_nothing}
use Rattle.drive_commands.specs.Giving.{Gives}

-- the sense data of a condition; where there is none, NO SENSE (SPC-4, REQUEST SENSE)
abbrev pub sense_due : Option Condition → Sense
sense_due None = no_sense
sense_due (Some condition) = condition_sense condition

-- the drive once a condition that may be there was reported to a nexus (SPC-4, REQUEST SENSE)
abbrev pub once_reported : {M K : Type 0} → Option Condition → ℕ → DriveState M K → DriveState M K
once_reported None nexus drive = drive
once_reported (Some condition) nexus drive = without_condition condition nexus drive

-- what is left: where it was answered, the drive once the condition was reported, however much of it was given; else
-- the drive as it was (SPC-4, REQUEST SENSE; the rest own)
abbrev pub after_report : Result Reply Fault → ℕ → Machine → Machine
after_report (Ok reply) nexus machine = once_reported (condition_due machine nexus) nexus machine
after_report (Err fault) nexus machine = machine

-- the condition that is due for the nexus is reported as data, cut to the room that the host has, and cleared
-- (SPC-4, REQUEST SENSE)
abbrev pub RequestSenseWork : ℕ → ℕ → MachineRelation
RequestSenseWork room nexus old answer made new =
    Gives (cut_to room (sense_bytes (sense_due (condition_due old nexus)))) answer × (made ≡ made_nothing)
    × (new ≡ after_report answer nexus old)
