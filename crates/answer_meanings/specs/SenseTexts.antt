-- Sense data in words (own).
use Rattle.std.specs.Prelude.{ℕ, ◌-◌, ◌/◌, ◌%◌, ◌^◌, ◌==◌, nat_lt, Bool, true, if◌then◌else◌, List, [], ◌∷◌, ◌++◌, Option, None, Some, codes, decimal}
use Rattle.std.specs.Fmt.{digit_glyph}
use Rattle.scsi_sense.specs.declared.sense_data.Sense.{Sense}
use Rattle.answer_meanings.specs.Conditions.{condition_of}
use Rattle.answer_meanings.specs.Words.{words_of}
use Rattle.answer_meanings.specs.declared.conditions.Condition.{Condition}
use Rattle.answer_meanings.specs.declared.sense_texts.Counted.{Counted}
use Rattle.answer_meanings.specs.declared.sense_texts.Counted.TheVariants.{Bytes, Blocks, Filemarks}

-- a byte as two digits in hexadecimal, in capitals (own)
abbrev pub hex : ℕ → List ℕ
hex byte = digit_glyph true (byte / 16) ∷ digit_glyph true (byte % 16) ∷ []

-- a number of bytes, in words (own)
abbrev pub size : ℕ → List ℕ
size number = if number == 1 then codes "1 byte" else decimal number ++ codes " bytes"

-- how many of what is counted were left, in words (own)
abbrev pub left : ℕ → Counted → List ℕ
left number Bytes =
    if number == 1 then codes "1 byte of the length was left"
    else decimal number ++ codes " bytes of the length were left"
left number Blocks =
    if number == 1 then codes "1 block of the count was left"
    else decimal number ++ codes " blocks of the count were left"
left number Filemarks =
    if number == 1 then codes "1 filemark of the count was left"
    else decimal number ++ codes " filemarks of the count were left"

-- how much shorter or longer than a read a block is, of a number in two's complement of 32 bits (SSC-4, READ(6))
abbrev pub difference : ℕ → List ℕ
difference number =
    if nat_lt number (2 ^ 31) then codes ", it is " ++ size number ++ codes " shorter"
    else codes ", it is " ++ size (2 ^ 32 - number) ++ codes " longer"

-- what INFORMATION says: of a block of another length the difference, else what was left; nothing of 0 (own)
abbrev pub rest : Option ℕ → Bool → Counted → List ℕ
rest None incorrect_length counted = []
rest (Some number) incorrect_length counted =
    if number == 0 then []
    else (if incorrect_length then difference number else codes ", " ++ left number counted)

-- the words of a condition, or of sense data that report none of the table (own)
abbrev pub words_found : Option Condition → List ℕ
words_found None = codes "sense data of another kind"
words_found (Some condition) = words_of condition

-- the words of the condition that sense data report (own)
abbrev pub words_in : Sense → List ℕ
words_in sense = words_found (condition_of sense)

-- in brackets the bits that are set, by name, and the code (own)
abbrev pub marks : Sense → List ℕ
marks sense =
    codes " (" ++ ((if sense.filemark then codes "FILEMARK, " else []) ++ (
    (if sense.end_of_medium then codes "EOM, " else []) ++ ((if sense.incorrect_length then codes "ILI, " else [])
    ++ (hex sense.code ++ (codes "/" ++ (hex sense.qualifier ++ codes ")"))))))

-- sense data in words: that they are deferred, the words, what INFORMATION says, bits and code (own)
abbrev pub sense_line : Sense → Counted → List ℕ
sense_line sense counted =
    (if sense.deferred then codes "after an earlier command: " else [])
    ++ (words_in sense ++ (rest sense.information sense.incorrect_length counted ++ marks sense))
