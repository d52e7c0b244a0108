-- What stands in a file where `check` finds a damage or a bad record.
use Rattle.std.specs.Prelude.{◌-◌, ◌==◌, ◌||◌, not, ℕ, List, ◌++◌, if◌then◌else◌, nat_le, nat_lt, string_bytes, codes, decimal}
use Rattle.vtl_base.specs.declared.layout.TheConstants.{FRAME_HEAD}
use Rattle.explanations.specs.Lines.{line_of}
use Rattle.gate_journal.specs.Side.{OPEN}
use Rattle.vtl_base.specs.declared.limits.TheConstants.{MAX_BODY}
use Rattle.file_reasons.specs.Sizes.{bytes_in_words}
use Rattle.file_reasons.specs.declared.damages.DamageReason.{DamageReason}
use Rattle.file_reasons.specs.declared.damages.Found.{Found}
use Rattle.file_reasons.specs.declared.damages.Found.TheVariants.{NoGate, Closed, NoLength, BadLength, CutOff, Whole}

-- what stands at a gate, given its byte, the length after it, and how many bytes the file has from the gate on (own)
abbrev pub frame_found : (gate length bytes : ℕ) → Found
frame_found gate length bytes =
    if bytes == 0 then NoGate
    else if not (gate == OPEN) then Closed
    else if nat_lt bytes FRAME_HEAD then NoLength
    else if (length == 0) || nat_lt MAX_BODY length then BadLength length
    else if nat_le (bytes - FRAME_HEAD) length then CutOff length (bytes - FRAME_HEAD)
    else Whole length

-- what stands there, in words (own)
abbrev pub found_text : Found → List ℕ
found_text NoGate = codes "the end of the file"
found_text Closed = codes "a closed gate"
found_text NoLength = codes "an open gate, and the end of the file behind it"
found_text (BadLength length) = codes "an open gate, and a length of " ++ (decimal length ++ codes " behind it")
found_text (CutOff length bytes) =
    codes "an open gate, a length of "
    ++ (decimal length ++ (codes ", and " ++ (bytes_in_words bytes ++ codes " behind it")))
found_text (Whole length) =
    codes "a whole frame of " ++ (bytes_in_words length ++ codes ", of which a record is bad")

-- what may stand there (own)
abbrev pub may_stand : Found → List ℕ
may_stand NoGate = codes "a gate"
may_stand Closed = codes "an open gate, since the copy has more frames"
may_stand NoLength =
    codes "an open gate, and a length of 1 to " ++ (decimal MAX_BODY ++ codes " bytes behind it")
may_stand (BadLength length) =
    codes "an open gate, and a length of 1 to " ++ (decimal MAX_BODY ++ codes " bytes behind it")
may_stand (CutOff length bytes) = codes "as many bytes as the length says, and a gate behind them"
may_stand (Whole length) = codes "records that can stand behind those before them"

-- where it stands, in words (own)
abbrev pub damage_place : DamageReason → List ℕ
damage_place reason = codes "byte " ++ (decimal reason.place ++ (codes " of the file " ++ string_bytes reason.file))

-- the lines of what stands there, and where (own)
abbrev pub place_lines : DamageReason → List ℕ
place_lines reason =
    line_of (codes "refused: " ++ found_text reason.found)
    ++ line_of (codes "where: " ++ damage_place reason)

-- the line of what may stand there (own)
abbrev pub allowed_line : DamageReason → List ℕ
allowed_line reason = line_of (codes "allowed: " ++ may_stand reason.found)

-- the lines of a damage: what stands there, where, what may stand there, what to do (own)
abbrev pub damage_lines : DamageReason → List ℕ
damage_lines reason =
    place_lines reason
    ++ (allowed_line reason
    ++ line_of (codes "to do: put the file back from where it was saved, a cartridge's with its second one"))
