-- Faults that a command may meet, and the reply to each.
use Rattle.std.specs.Prelude.{[], Result, Ok, Err}
use Rattle.scsi_sense.specs.declared.replies.Reply.{Reply}
use Rattle.scsi_sense.specs.declared.sense_data.Sense.{Sense}
use Rattle.scsi_sense.specs.Replies.{check_with}
use Rattle.scsi_sense.specs.Senses.{insufficient_resources, write_error, read_error, volume_overflow, keeper_failed, store_full}
use Rattle.drive_commands.specs.declared.faults.Fault.{Fault}
use Rattle.drive_commands.specs.declared.faults.Fault.TheVariants.{NoMemory, Writing, Reading, SideFull, Saving, StoreFull}

-- the sense data of a fault (SPC-4, SSC-4, additional sense codes; which fault has which code is own)
abbrev pub fault_sense : Fault → Sense
fault_sense NoMemory = insufficient_resources
fault_sense Writing = write_error
fault_sense Reading = read_error
fault_sense (SideFull residue) = volume_overflow residue
fault_sense Saving = keeper_failed
fault_sense StoreFull = store_full

-- CHECK CONDITION for a fault, with no data (own)
abbrev pub fault_reply : Fault → Reply
fault_reply fault = check_with (fault_sense fault) []

-- what a host sees of an answer: the reply, or that of a fault (own)
abbrev pub reply_of : Result Reply Fault → Reply
reply_of (Ok reply) = reply
reply_of (Err fault) = fault_reply fault
