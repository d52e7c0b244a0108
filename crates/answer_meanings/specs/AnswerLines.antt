-- What an answer means (own).
use Rattle.std.specs.Prelude.{ℕ, List, ◌++◌, Option, None, Some, option_map, codes, decimal}
use Rattle.scsi_sense.specs.declared.replies.Reply.{Reply}
use Rattle.scsi_sense.specs.declared.replies.Status.{Status}
use Rattle.scsi_sense.specs.declared.replies.Status.TheVariants.{Good}
use Rattle.scsi_sense.specs.declared.replies.Status.TheVariants as statuses
use Rattle.scsi_sense.specs.declared.sense_data.Sense.{Sense}
use Rattle.answer_meanings.specs.SenseTexts.{sense_line}
use Rattle.answer_meanings.specs.declared.answer_lines.AnswerLine.{AnswerLine}
use Rattle.answer_meanings.specs.declared.answer_lines.Cause.{Cause}
use Rattle.answer_meanings.specs.declared.answer_lines.Cause.TheVariants.{Check, Conflict}
use Rattle.answer_meanings.specs.declared.sense_texts.Counted.{Counted}

-- why an answer of this status and sense data is not GOOD, if it is not (SAM-5, status codes)
abbrev pub cause_of : Status → Option Sense → Counted → Option Cause
cause_of Good sense counted = None
cause_of statuses.Check sense counted = option_map (λ it. Check (record { sense = it; counted = counted })) sense
cause_of statuses.Conflict sense counted = Some Conflict

-- what a reply to a line means, where it is not GOOD (own)
abbrev pub answer_line : ℕ → Reply → Counted → Option AnswerLine
answer_line line reply counted =
    option_map (λ cause. record { line = line; cause = cause }) (cause_of reply.status reply.sense counted)

-- a cause in words (own)
abbrev pub cause_text : Cause → List ℕ
cause_text (Check text) = sense_line text.sense text.counted
cause_text Conflict = codes "a reservation of another host stops this command (CONFLICT)"

-- the line: the number of the script's line, and why (own)
abbrev pub line_text : AnswerLine → List ℕ
line_text it = codes "line " ++ (decimal it.line ++ (codes ": " ++ cause_text it.cause))
