-- The words of a reason.
use Rattle.std.specs.Prelude.{ℕ, List, [], ◌∷◌, ◌++◌, Option, Some, None, String, string_bytes, codes, decimal, filter, fold, if◌then◌else◌}
use Rattle.std.specs.Char.{is_ascii_graphic}
use Rattle.std.specs.List.{list_all, range_with_len}
use Rattle.std.specs.declared.alloc.Global.{Global}
use Rattle.vtl_base.specs.declared.limits.TheConstants.{LINE_BYTES, NEXUSES}
use Rattle.explanations.specs.Lines.{line_of}
use Rattle.script_reasons.specs.Drives.{has}
use Rattle.script_reasons.specs.declared.drives.Drives.{Drives}
use Rattle.script_reasons.specs.declared.reasons.Fault.{Fault}
use Rattle.script_reasons.specs.declared.reasons.Fault.TheVariants as faults
use Rattle.script_reasons.specs.declared.reasons.LineReason.{LineReason}

-- a text and a number, with a comma between them where the text has a byte (own)
abbrev pub with_number : List ℕ → ℕ → List ℕ
with_number [] number = decimal number
with_number (byte ∷ text) number = (byte ∷ text) ++ (codes ", " ++ decimal number)

-- numbers, separated by commas (own)
abbrev pub listed : List ℕ → List ℕ
listed numbers = fold with_number [] numbers

-- a text and the number of a drive, where that is configured (own)
abbrev pub with_configured : Drives → List ℕ → ℕ → List ℕ
with_configured drives text number = if has drives number then with_number text number else text

-- the drives that are configured, by rising number (own)
abbrev pub configured_of : Drives → List ℕ
configured_of drives = filter (has drives) (range_with_len 1 16)

-- a text, and other words where it is empty (own)
abbrev pub text_or : List ℕ → List ℕ → List ℕ
text_or words [] = words
text_or words (byte ∷ text) = byte ∷ text

-- the drives that are configured, or that there is none (own)
abbrev pub drives_text : Drives → List ℕ
drives_text drives = text_or (codes "and none is") (listed (configured_of drives))

-- what is refused, before the field (own)
abbrev pub fault_subject : Fault → List ℕ
fault_subject faults.TooLong = codes "the line is too long"
fault_subject faults.Host = codes "HOST is "
fault_subject faults.Drive = codes "DRIVE is "
fault_subject faults.NotConfigured = codes "DRIVE is "
fault_subject faults.Odd = codes "an odd number of hexadecimal digits, "
fault_subject faults.NoHex = codes "no hexadecimal digits, "
fault_subject faults.Missing = codes "DRIVE or the command block is missing"
fault_subject faults.TooMany = codes "a field too many, "
fault_subject faults.Address = codes "an element address is "
fault_subject faults.NoAddress = codes "an element address is missing"

-- what is shown where there is no field, or none that is text (own)
abbrev pub no_field : Fault → List ℕ
no_field faults.TooLong = []
no_field faults.Missing = []
no_field faults.NoAddress = []
no_field _ = codes "no text"

-- the field, where there is one (own)
abbrev pub field_text : Fault → Option (String Global) → List ℕ
field_text fault None = no_field fault
field_text fault (Some field) = string_bytes field

-- what is allowed; the limits are those that are checked (own)
abbrev pub fault_allowed : Fault → Drives → List ℕ
fault_allowed faults.TooLong drives = codes "allowed: " ++ (decimal LINE_BYTES ++ codes " bytes")
fault_allowed faults.Host drives =
    codes "allowed: 1 to " ++ (decimal NEXUSES ++ codes "; a line may also be move FROM TO or --, or begin with #")
fault_allowed faults.Drive drives = codes "allowed: a drive that is configured, " ++ drives_text drives
fault_allowed faults.NotConfigured drives =
    codes "allowed: a drive that is configured, " ++ drives_text drives
fault_allowed faults.Odd drives = codes "allowed: two hexadecimal digits for each byte"
fault_allowed faults.NoHex drives = codes "allowed: two hexadecimal digits for each byte"
fault_allowed faults.Missing drives = codes "allowed: HOST DRIVE CDB [DATA], move FROM TO, or --"
fault_allowed faults.TooMany drives = codes "allowed: HOST DRIVE CDB [DATA], move FROM TO, or --"
fault_allowed faults.Address drives = codes "allowed: move FROM TO, each a number of 1 to 5 digits"
fault_allowed faults.NoAddress drives = codes "allowed: move FROM TO, each a number of 1 to 5 digits"

-- what is said behind a field with a byte that a line shows as a question mark; a field has no spaces (own)
abbrev pub unprinted_note : Option (String Global) → List ℕ
unprinted_note None = []
unprinted_note (Some field) =
    if list_all is_ascii_graphic (string_bytes field) then [] else codes " (? is no printable ASCII character)"

-- what is refused, with the field (own)
unfoldable pub fault_refused : Fault → Option (String Global) → List ℕ
fault_refused fault field =
    codes "refused: " ++ (fault_subject fault ++ (field_text fault field ++ unprinted_note field))

-- where the field begins (own)
unfoldable pub column_text : ℕ → ℕ → List ℕ
column_text line column = codes "where: line " ++ (decimal line ++ (codes " of the script, column " ++ decimal column))

-- what to do (own)
unfoldable pub fix_text : List ℕ
fix_text = codes "to do: correct the line; the phases before its own were carried out"

-- the lines that explain why a line is refused: what, where, what is allowed, what to do (own)
abbrev pub reason_lines : LineReason → List ℕ
reason_lines reason =
    line_of (fault_refused reason.fault reason.field) ++ (line_of (column_text reason.line reason.column)
    ++ (line_of (fault_allowed reason.fault reason.drives) ++ line_of fix_text))
