-- All sense data that drives and moves report, each by its name.
use Rattle.std.specs.Prelude.{ℕ, Option, Some, true}
use Rattle.scsi_attention.specs.declared.attention_sets.Attention.{Attention}
use Rattle.scsi_attention.specs.declared.attention_sets.Attention.TheVariants.{PowerOn, MediumChanged, ReservationsPreempted, RegistrationsPreempted, ReservationsReleased, ModeChanged}
use Rattle.scsi_sense.specs.declared.sense_data.Sense.{Sense}
use Rattle.scsi_sense.specs.declared.sense_data.SenseKey.TheVariants.{NoSense, NotReady, MediumError, HardwareError, IllegalRequest, UnitAttention, BlankCheck, AbortedCommand, VolumeOverflow}
use Rattle.scsi_sense.specs.SenseData.{plain_sense}

-- there is nothing to report (SPC-4, REQUEST SENSE)
abbrev pub no_sense : Sense
no_sense = plain_sense NoSense 0x00 0x00

-- a command block has no operation code, or an unknown one (SPC-4, command processing)
abbrev pub invalid_operation_code : Sense
invalid_operation_code = plain_sense IllegalRequest 0x20 0x00

-- the length of a command block, one of its fields or the count of bytes sent with it is wrong (SPC-4)
abbrev pub invalid_field : Sense
invalid_field = plain_sense IllegalRequest 0x24 0x00

-- a parameter list has a wrong length (SPC-4)
abbrev pub parameter_list_length_error : Sense
parameter_list_length_error = plain_sense IllegalRequest 0x1a 0x00

-- a field of a parameter list is wrong (SPC-4)
abbrev pub invalid_parameter : Sense
invalid_parameter = plain_sense IllegalRequest 0x26 0x00

-- a reservation is released under another type than its own (SPC-4, PERSISTENT RESERVE OUT)
abbrev pub invalid_release : Sense
invalid_release = plain_sense IllegalRequest 0x26 0x04

-- an element address is neither a slot's nor a drive's (SMC-3)
abbrev pub invalid_element_address : Sense
invalid_element_address = plain_sense IllegalRequest 0x21 0x01

-- the destination of a move holds a cartridge (SMC-3, MOVE MEDIUM)
abbrev pub destination_full : Sense
destination_full = plain_sense IllegalRequest 0x3b 0x0d

-- the source of a move holds no cartridge (SMC-3, MOVE MEDIUM)
abbrev pub source_empty : Sense
source_empty = plain_sense IllegalRequest 0x3b 0x0e

-- a reservation store is full, and nothing changed (own)
abbrev pub store_full : Sense
store_full = plain_sense IllegalRequest 0x55 0x04

-- no cartridge is loaded (SSC-4)
abbrev pub medium_not_present : Sense
medium_not_present = plain_sense NotReady 0x3a 0x00

-- the medium has failed, and stays so until it is unloaded and loaded (own)
abbrev pub medium_failed : Sense
medium_failed = plain_sense HardwareError 0x44 0x00

-- the keeper of the reservations has failed, and stays so until a restart; it is reported like a failed medium (own)
abbrev pub keeper_failed : Sense
keeper_failed = plain_sense HardwareError 0x44 0x00

-- a device failed while a command stored what was pending (own)
abbrev pub write_error : Sense
write_error = plain_sense MediumError 0x0c 0x00

-- a device failed while pending changes were stored between two commands: a deferred error (own)
abbrev pub deferred_write_error : Sense
deferred_write_error = record (plain_sense MediumError 0x0c 0x00) { deferred = true }

-- a device failed while a block was read or a cartridge loaded, or the side was refused (own)
abbrev pub read_error : Sense
read_error = plain_sense MediumError 0x11 0x00

-- memory ran out (own)
abbrev pub insufficient_resources : Sense
insufficient_resources = plain_sense AbortedCommand 0x55 0x03

-- the data were written, and the partition is nearly full (SSC-4, WRITE(6); INFORMATION own)
abbrev pub early_warning : Sense
early_warning = record (plain_sense NoSense 0x00 0x02) { end_of_medium = true; information = Some 0 }

-- the data do not fit, and nothing changed; residue is how much was not written, if it is reported (SSC-4, WRITE(6);
-- that nothing changed own)
abbrev pub volume_overflow : Option ℕ → Sense
volume_overflow residue = record (plain_sense VolumeOverflow 0x00 0x02) { end_of_medium = true; information = residue }

-- the end of data was met; residue is how much was not passed or read, if it is reported (SSC-4, READ(6), SPACE(6),
-- LOCATE(10))
abbrev pub end_of_data : Option ℕ → Sense
end_of_data residue = record (plain_sense BlankCheck 0x00 0x05) { information = residue }

-- a filemark was met; residue is how much was not passed or read (SSC-4, READ(6), SPACE(6))
abbrev pub filemark_detected : ℕ → Sense
filemark_detected residue = record (plain_sense NoSense 0x00 0x01) { filemark = true; information = Some residue }

-- the beginning of a partition was met; residue is how much was not passed (SSC-4, SPACE(6))
abbrev pub beginning : ℕ → Sense
beginning residue = record (plain_sense NoSense 0x00 0x04) { end_of_medium = true; information = Some residue }

-- a block has another length than a read; residue is the read's length minus the block's, in two's complement
-- (SSC-4, READ(6))
abbrev pub incorrect_length : ℕ → Sense
incorrect_length residue =
    record (plain_sense NoSense 0x00 0x00) { incorrect_length = true; information = Some residue }

-- a unit attention condition, each with a code of its own (SPC-4, unit attention)
abbrev pub attention_sense : Attention → Sense
attention_sense PowerOn = plain_sense UnitAttention 0x29 0x00
attention_sense MediumChanged = plain_sense UnitAttention 0x28 0x00
attention_sense ReservationsPreempted = plain_sense UnitAttention 0x2a 0x03
attention_sense RegistrationsPreempted = plain_sense UnitAttention 0x2a 0x05
attention_sense ReservationsReleased = plain_sense UnitAttention 0x2a 0x04
attention_sense ModeChanged = plain_sense UnitAttention 0x2a 0x01
