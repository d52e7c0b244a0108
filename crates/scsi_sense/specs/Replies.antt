-- Statuses and replies.
use Rattle.std.specs.Prelude.{ℕ, List, [], None, Some}
use Rattle.scsi_sense.specs.declared.sense_data.Sense.{Sense}
use Rattle.scsi_sense.specs.declared.replies.Status.{Status}
use Rattle.scsi_sense.specs.declared.replies.Status.TheVariants.{Good, Check, Conflict}
use Rattle.scsi_sense.specs.declared.replies.Reply.{Reply}

-- the byte of a status (SAM-5, status codes)
abbrev pub status_code : Status → ℕ
status_code Good = 0x00
status_code Check = 0x02
status_code Conflict = 0x18

-- GOOD with these bytes (SAM-5, status codes)
abbrev pub good_with : List ℕ → Reply
good_with bytes = record { status = Good; sense = None; bytes = bytes }

-- CHECK CONDITION with this sense data and these bytes (SAM-5, status codes)
abbrev pub check_with : Sense → List ℕ → Reply
check_with sense bytes = record { status = Check; sense = Some sense; bytes = bytes }

-- RESERVATION CONFLICT (SAM-5, status codes)
abbrev pub conflict : Reply
conflict = record { status = Conflict; sense = None; bytes = [] }
