-- Why a line of a script is refused.
use Rattle.std.specs.Prelude.{◌≡◌, ◌≤◌, ◌<◌, ◌+◌, ◌-◌, ◌%◌, ℕ, Bool, true, false, not, List, [], ◌∷◌, length, take, drop, None, IfSome, IsSome, string_bytes}
use Rattle.std.specs.Char.{is_ascii_hexdigit}
use Rattle.std.specs.List.{list_all}
use Rattle.vtl_base.specs.declared.limits.TheConstants.{LINE_BYTES}
use Rattle.vtl_script.specs.Lines.{line_fields, parse_fields, decimal_of, host_of, drive_of}
use Rattle.vtl_script.specs.declared.lines.ParsedLine.TheVariants.{Refused}
use Rattle.script_reasons.specs.Drives.{has}
use Rattle.script_reasons.specs.declared.drives.Drives.{Drives}
use Rattle.script_reasons.specs.declared.fields.Part.{Part}
use Rattle.script_reasons.specs.declared.reasons.Fault.{Fault}
use Rattle.script_reasons.specs.declared.reasons.Fault.TheVariants as faults
use Rattle.script_reasons.specs.declared.reasons.LineReason.{LineReason}
use Rattle.script_reasons.specs.declared.wrong_fields.Wrong.{Wrong}

-- At true, the line has none of the forms of a line. At false nothing is known, since memory may have run out (own).
abbrev pub IsLineRefused : (ℕ → Bool) → List ℕ → Bool → Type 0
IsLineRefused is_configured line true = parse_fields is_configured (line_fields line) ≡ Refused
IsLineRefused is_configured line false = Unit {0}

-- a part of the line (own)
pub record IsPartOf (line : List ℕ) (part : Part) : Type 0 where
  pub ordered : part.from ≤ part.to
  pub inside : part.to ≤ length line

-- a part of the line that has a byte (own)
pub record IsFieldOf (line : List ℕ) (part : Part) : Type 0 where
  pub ordered : part.from < part.to
  pub inside : part.to ≤ length line

-- the bytes of a part (own)
abbrev pub bytes_of_part : List ℕ → Part → List ℕ
bytes_of_part line part = take (part.to - part.from) (drop part.from line)

-- the end of a line (own)
abbrev pub empty_end : List ℕ → Part
empty_end line = record { from = length line; to = length line }

-- every drive that there may be (own)
abbrev pub any_drive : ℕ → Bool
any_drive number = true

-- a part of a line begins with another byte than a hexadecimal digit (own)
abbrev pub starts_otherwise : List ℕ → Bool
starts_otherwise [] = false
starts_otherwise (byte ∷ rest) = not (is_ascii_hexdigit byte)

-- a part of a line has this fault; where a field is missing nothing is left of the line, one too many has a byte, and
-- of a field with another byte than hexadecimal digits the part begins with such a byte (own)
abbrev pub IsFaulty : Drives → Fault → List ℕ → Type 0
IsFaulty drives faults.TooLong field = ⊥
IsFaulty drives faults.Host field = host_of field ≡ None
IsFaulty drives faults.Drive field = drive_of any_drive field ≡ None
IsFaulty drives faults.NotConfigured field =
    IsSome (drive_of any_drive field) × (drive_of (has drives) field ≡ None)
IsFaulty drives faults.Odd field = (list_all is_ascii_hexdigit field ≡ true) × (length field % 2 ≡ 1)
IsFaulty drives faults.NoHex field = starts_otherwise field ≡ true
IsFaulty drives faults.Missing field = length field ≡ 0
IsFaulty drives faults.TooMany field = 0 < length field
IsFaulty drives faults.Address field = decimal_of field ≡ None
IsFaulty drives faults.NoAddress field = length field ≡ 0

-- a part of a line has this fault (own)
pub record IsWrongIn (drives : Drives) (line : List ℕ) (wrong : Wrong) : Type 0 where
  pub part_is : IsPartOf line wrong.part
  pub fault_is : IsFaulty drives wrong.fault (bytes_of_part line wrong.part)

-- why the line with this number is refused in a library of these drives: the grammar of scripts refuses it, and the
-- part of it that begins at the column has this fault; the text that is shown is that part (own)
pub record IsLineReason (drives : Drives) (number : ℕ) (line : List ℕ) (reason : LineReason) : Type 0 where
  pub refused : parse_fields (has drives) (line_fields line) ≡ Refused
  pub line_is : reason.line ≡ number
  pub drives_are : reason.drives ≡ drives
  pub part : Part
  pub part_is : IsPartOf line part
  pub column_is : reason.column ≡ part.from + 1
  pub fault_is : IsFaulty drives reason.fault (bytes_of_part line part)
  pub field_is : IfSome reason.field (λ text. string_bytes text ≡ bytes_of_part line part)

-- the line with this number has more bytes than a line may have: the first of them is refused (own)
abbrev pub too_long : Drives → ℕ → LineReason
too_long drives number = record {
  line = number;
  column = LINE_BYTES + 1;
  fault = faults.TooLong;
  field = None;
  drives = drives;
}
