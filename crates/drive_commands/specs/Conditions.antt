-- Conditions that are reported to a host in the place of a command, or as data.
use Rattle.std.specs.Prelude.{ℕ, [], Option, None, Some, if◌then◌else◌, false}
use Rattle.scsi_attention.specs.declared.attention_sets.Attention.{Attention}
use Rattle.scsi_attention.specs.Attentions.{attention_of, cleared}
use Rattle.scsi_sense.specs.declared.replies.Reply.{Reply}
use Rattle.scsi_sense.specs.declared.sense_data.Sense.{Sense}
use Rattle.scsi_sense.specs.Senses.{attention_sense, deferred_write_error}
use Rattle.scsi_sense.specs.Replies.{check_with, conflict}
use Rattle.drive_commands.specs.declared.conditions.Condition.{Condition}
use Rattle.drive_commands.specs.declared.conditions.Condition.TheVariants.{DeferredError, UnitAttention}
use Rattle.drive_commands.specs.declared.conditions.Denial.{Denial}
use Rattle.drive_commands.specs.declared.conditions.Denial.TheVariants.{Refused, Reported, Conflict}
use Rattle.drive_commands.specs.State.{Machine, DriveState}

-- the sense data of a condition (SPC-4, deferred errors, unit attention conditions)
abbrev pub condition_sense : Condition → Sense
condition_sense DeferredError = deferred_write_error
condition_sense (UnitAttention attention) = attention_sense attention

-- the deferred error, where one is to be reported (SPC-4, deferred errors)
abbrev pub deferred_due : Machine → Option Condition
deferred_due machine = if machine.deferred then Some DeferredError else None

-- a unit attention condition, where one is established (SPC-4, unit attention conditions)
abbrev pub attention_due : Option Attention → Option Condition
attention_due None = None
attention_due (Some attention) = Some (UnitAttention attention)

-- the first of two that may be there (own)
abbrev pub first_some : {A : Type 0} → Option A → Option A → Option A
first_some (Some a) other = Some a
first_some None other = other

-- The condition that is reported to a nexus next: the deferred error, to the first nexus that asks, and then the first
-- unit attention condition of the nexus (SPC-4, deferred errors, unit attention conditions; to any nexus, own).
abbrev pub condition_due : Machine → ℕ → Option Condition
condition_due machine nexus =
    first_some (deferred_due machine) (attention_due (attention_of machine.attentions nexus))

-- a drive once a condition was reported to a nexus: it is cleared, a unit attention condition for that nexus alone
-- (SPC-4, deferred errors, unit attention conditions)
abbrev pub without_condition : {M K : Type 0} → Condition → ℕ → DriveState M K → DriveState M K
without_condition DeferredError nexus drive = record drive { deferred = false }
without_condition (UnitAttention attention) nexus drive =
    record drive { attentions = cleared drive.attentions nexus attention }

-- what a host is answered whose command is not carried out; there is no data (SAM-5, SPC-4)
abbrev pub denial_reply : Denial → Reply
denial_reply (Refused sense) = check_with sense []
denial_reply (Reported condition) = check_with (condition_sense condition) []
denial_reply Conflict = conflict

-- what a command leaves that is not carried out: the drive as it was, or less the condition that was reported (SPC-4)
abbrev pub denied : {M K : Type 0} → Denial → ℕ → DriveState M K → DriveState M K
denied (Refused sense) nexus drive = drive
denied (Reported condition) nexus drive = without_condition condition nexus drive
denied Conflict nexus drive = drive
