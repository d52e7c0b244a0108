-- The text of an answer.
use Rattle.std.specs.Prelude.{ℕ, List, [], ◌∷◌, ◌++◌, Option, None, Some, flat_map, codes}
use Rattle.std.specs.Io.{StartsWith}
use Rattle.std.specs.Io.KnownBytes.{Appends}
use Rattle.hex.specs.Hex.{encode_lower}
use Rattle.scsi_sense.specs.declared.replies.Reply.{Reply}
use Rattle.scsi_sense.specs.declared.sense_data.Sense.{Sense}
use Rattle.scsi_sense.specs.declared.replies.Status.{Status}
use Rattle.scsi_sense.specs.declared.replies.Status.TheVariants.{Good, Check, Conflict}
use Rattle.scsi_sense.specs.SenseData.{sense_bytes}

-- a space and these bytes in hex, in lower case; nothing where there is no byte (own)
abbrev pub hex_word : List ℕ → List ℕ
hex_word [] = []
hex_word (byte ∷ bytes) = 32 ∷ encode_lower (byte ∷ bytes)

-- the name of a status (own)
abbrev pub status_text : Status → List ℕ
status_text Good = codes "GOOD"
status_text Check = codes "CHECK"
status_text Conflict = codes "CONFLICT"

-- the sense data of an answer, where it has some (own)
abbrev pub sense_text : Option Sense → List ℕ
sense_text None = []
sense_text (Some sense) = hex_word (sense_bytes sense)

-- the line of an answer: its status, its sense data, the bytes that the host is given (own)
abbrev pub reply_text : Reply → List ℕ
reply_text reply = status_text reply.status ++ sense_text reply.sense ++ hex_word reply.bytes ++ 10 ∷ []

-- the lines of some answers, in order (own)
abbrev pub text_of : List Reply → List ℕ
text_of replies = flat_map reply_text replies

-- a beginning of a text was written (own)
abbrev pub AppendsPart : Option (List ℕ) → Option (List ℕ) → List ℕ → Type 0
AppendsPart before now text = (written : List ℕ) × StartsWith text written × Appends before now written
