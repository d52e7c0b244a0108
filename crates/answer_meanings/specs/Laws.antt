-- Laws of the lines (own).
use Rattle.std.specs.Prelude.{◌≡◌, ◌≤◌, ◌<◌, ◌^◌, ℕ, length, Option, None, Some}
use Rattle.scsi_attention.specs.declared.attention_sets.Attention.TheVariants.{PowerOn, MediumChanged, ReservationsPreempted, RegistrationsPreempted, ReservationsReleased, ModeChanged}
use Rattle.scsi_sense.specs.Senses.{filemark_detected, attention_sense, invalid_element_address, invalid_field, invalid_parameter, parameter_list_length_error, invalid_release, beginning, destination_full, early_warning, end_of_data, deferred_write_error, keeper_failed, medium_failed, insufficient_resources, volume_overflow, medium_not_present, no_sense, incorrect_length, read_error, source_empty, store_full, invalid_operation_code, write_error}
use Rattle.scsi_sense.specs.declared.sense_data.Sense.{Sense}
use Rattle.answer_meanings.specs.AnswerLines.{line_text}
use Rattle.answer_meanings.specs.Conditions.{condition_of}
use Rattle.answer_meanings.specs.declared.answer_lines.Cause.TheVariants.{Check}
use Rattle.answer_meanings.specs.declared.conditions.Condition.TheVariants as is
use Rattle.answer_meanings.specs.declared.sense_texts.Counted.{Counted}

-- sense data that drives and moves report by a name are of the condition of that name (SPC-4, SSC-4, SMC-3)
pub record EachSenseHasItsCondition : Type 0 where
  pub nothing : condition_of no_sense ≡ Some is.NothingToReport
  pub incorrect_length : (residue : ℕ) → condition_of (incorrect_length residue) ≡ Some is.IncorrectLength
  pub filemark : (residue : ℕ) → condition_of (filemark_detected residue) ≡ Some is.Filemark
  pub early_warning : condition_of early_warning ≡ Some is.EarlyWarning
  pub beginning : (residue : ℕ) → condition_of (beginning residue) ≡ Some is.Beginning
  pub end_of_data : (residue : Option ℕ) → condition_of (end_of_data residue) ≡ Some is.EndOfData
  pub no_room : (residue : Option ℕ) → condition_of (volume_overflow residue) ≡ Some is.NoRoom
  pub not_present : condition_of medium_not_present ≡ Some is.NotPresent
  pub write_error : condition_of write_error ≡ Some is.WriteError
  pub deferred : condition_of deferred_write_error ≡ Some is.WriteError
  pub read_error : condition_of read_error ≡ Some is.ReadError
  pub medium : condition_of medium_failed ≡ Some is.Failed
  pub keeper : condition_of keeper_failed ≡ Some is.Failed
  pub no_memory : condition_of insufficient_resources ≡ Some is.NoMemory
  pub command : condition_of invalid_operation_code ≡ Some is.UnknownCommand
  pub block : condition_of invalid_field ≡ Some is.WrongBlock
  pub list_length : condition_of parameter_list_length_error ≡ Some is.WrongListLength
  pub list : condition_of invalid_parameter ≡ Some is.WrongList
  pub release : condition_of invalid_release ≡ Some is.WrongRelease
  pub address : condition_of invalid_element_address ≡ Some is.WrongAddress
  pub destination : condition_of destination_full ≡ Some is.DestinationFull
  pub source : condition_of source_empty ≡ Some is.SourceEmpty
  pub store : condition_of store_full ≡ Some is.StoreFull

-- each unit attention condition is the condition of its name (SPC-4, unit attention)
pub record EachAttentionIsACondition : Type 0 where
  pub power_on : condition_of (attention_sense PowerOn) ≡ Some is.PowerOn
  pub medium : condition_of (attention_sense MediumChanged) ≡ Some is.MediumChanged
  pub reservations : condition_of (attention_sense ReservationsPreempted) ≡ Some is.ReservationsPreempted
  pub registrations : condition_of (attention_sense RegistrationsPreempted) ≡ Some is.RegistrationsPreempted
  pub released : condition_of (attention_sense ReservationsReleased) ≡ Some is.ReservationsReleased
  pub mode : condition_of (attention_sense ModeChanged) ≡ Some is.ModeChanged

-- the line of these sense data has at most 120 columns in a script of less than 10,000,000,000 lines, which each script
-- is (own)
abbrev pub FitsALine : Sense → Type 0
FitsALine sense =
    (line : ℕ) (counted : Counted) → line < 10 ^ 10
    → length (line_text (record {
      line = line;
      cause = Check (record { sense = sense; counted = counted });
    })) ≤ 120

-- the line of sense data that drives and moves report fits, whatever is left (own)
pub record EachLineFits : Type 0 where
  pub nothing : FitsALine no_sense
  pub incorrect_length : (residue : ℕ) → residue < 2 ^ 32 → FitsALine (incorrect_length residue)
  pub filemark : (residue : ℕ) → residue < 2 ^ 32 → FitsALine (filemark_detected residue)
  pub early_warning : FitsALine early_warning
  pub beginning : (residue : ℕ) → residue < 2 ^ 32 → FitsALine (beginning residue)
  pub end_alone : FitsALine (end_of_data None)
  pub end_of_data : (residue : ℕ) → residue < 2 ^ 32 → FitsALine (end_of_data (Some residue))
  pub no_room : (residue : ℕ) → residue < 2 ^ 32 → FitsALine (volume_overflow (Some residue))
  pub no_room_alone : FitsALine (volume_overflow None)
  pub not_present : FitsALine medium_not_present
  pub write_error : FitsALine write_error
  pub deferred : FitsALine deferred_write_error
  pub read_error : FitsALine read_error
  pub medium : FitsALine medium_failed
  pub keeper : FitsALine keeper_failed
  pub no_memory : FitsALine insufficient_resources
  pub command : FitsALine invalid_operation_code
  pub block : FitsALine invalid_field
  pub list_length : FitsALine parameter_list_length_error
  pub list : FitsALine invalid_parameter
  pub release : FitsALine invalid_release
  pub address : FitsALine invalid_element_address
  pub destination : FitsALine destination_full
  pub source : FitsALine source_empty
  pub store : FitsALine store_full
  pub power_on : FitsALine (attention_sense PowerOn)
  pub medium_changed : FitsALine (attention_sense MediumChanged)
  pub reservations : FitsALine (attention_sense ReservationsPreempted)
  pub registrations : FitsALine (attention_sense RegistrationsPreempted)
  pub released : FitsALine (attention_sense ReservationsReleased)
  pub mode : FitsALine (attention_sense ModeChanged)
