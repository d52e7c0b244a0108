-- One line of a script, and what it says (own).
use Rattle.std.specs.Prelude.{ℕ, ◌+◌, ◌-◌, ◌*◌, ◌==◌, ◌&&◌, nat_lt, nat_le, Bool, if◌then◌else◌, List, [], ◌∷◌, length, slice_index, filter, fold, codes, bytes_eq, Option, Some, None}
use Rattle.std.specs.List.{slice_split, list_all}
use Rattle.std.specs.Char.{is_ascii_digit}
use Rattle.std.specs.Result.{result_ok}
use Rattle.hex.specs.Hex.{decode_of}
use Rattle.vtl_script.specs.declared.lines.ParsedLine.{ParsedLine}
use Rattle.vtl_script.specs.declared.lines.ParsedLine.TheVariants.{Nothing, PhaseEnd, Command, Move, Refused}

-- whether a part of a line has a byte (own)
abbrev pub is_some_byte : List ℕ → Bool
is_some_byte part = nat_lt 0 (length part)

-- the fields of a line: its parts between spaces, except for those of no byte (own)
abbrev pub line_fields : List ℕ → List (List ℕ)
line_fields line = filter is_some_byte (slice_split (λ byte. byte == 32) line)

-- the number that decimal digits spell (own)
abbrev pub number_of : List ℕ → ℕ
number_of digits = fold (λ number digit. 10 * number + (digit - 48)) 0 digits

-- a decimal number: 1 to 5 digits (own)
abbrev pub decimal_of : List ℕ → Option ℕ
decimal_of field = if nat_le (length field) 5 && list_all is_ascii_digit field then Some (number_of field) else None

-- a number that passes (own)
abbrev pub only_if : (ℕ → Bool) → Option ℕ → Option ℕ
only_if passes None = None
only_if passes (Some number) = if passes number then Some number else None

-- a host: 1 to 64 (own)
abbrev pub host_of : List ℕ → Option ℕ
host_of field = only_if (λ number. nat_le 1 number && nat_le number 64) (decimal_of field)

-- a drive: 1 to 16, and configured (own)
abbrev pub drive_of : (ℕ → Bool) → List ℕ → Option ℕ
drive_of is_configured field =
    only_if (λ number. (nat_le 1 number && nat_le number 16) && is_configured number) (decimal_of field)

-- the bytes that hex digits spell, two for each byte, in either case (own)
abbrev pub bytes_of : List ℕ → Option (List ℕ)
bytes_of field = result_ok (decode_of field)

-- a command, where all its fields are good (own)
abbrev pub parsed_command : Option ℕ → Option ℕ → Option (List ℕ) → Option (List ℕ) → ParsedLine
parsed_command (Some host) (Some drive) (Some cdb) (Some sent) =
    Command (record { host = host; drive = drive; cdb = cdb; sent = sent })
parsed_command host drive cdb sent = Refused

-- the data of a command: no field, or one (own)
abbrev pub data_of : List (List ℕ) → Option (List ℕ)
data_of [] = Some []
data_of (field ∷ []) = Some field
data_of (field ∷ other ∷ fields) = None

-- HOST DRIVE CDB [DATA] (own)
abbrev pub command_in : (ℕ → Bool) → List ℕ → List ℕ → List ℕ → Option (List ℕ) → ParsedLine
command_in is_configured host drive cdb None = Refused
command_in is_configured host drive cdb (Some sent) =
    parsed_command (host_of host) (drive_of is_configured drive) (bytes_of cdb) (bytes_of sent)

-- what the fields of a line say, the first of them apart: `--`, or a command (own)
abbrev pub parse_command : (ℕ → Bool) → List ℕ → List (List ℕ) → ParsedLine
parse_command is_configured first [] = if bytes_eq first (codes "--") then PhaseEnd else Refused
parse_command is_configured first (drive ∷ []) = Refused
parse_command is_configured first (drive ∷ cdb ∷ rest) = command_in is_configured first drive cdb (data_of rest)

-- a move, where both element addresses are decimal numbers (own)
abbrev pub parsed_move : Option ℕ → Option ℕ → ParsedLine
parsed_move (Some from) (Some to) = Move from to
parsed_move from to = Refused

-- what the fields behind `move` say: FROM TO (own)
abbrev pub parse_move : List (List ℕ) → ParsedLine
parse_move [] = Refused
parse_move (from ∷ []) = Refused
parse_move (from ∷ to ∷ []) = parsed_move (decimal_of from) (decimal_of to)
parse_move (from ∷ to ∷ other ∷ fields) = Refused

-- what the fields of a line say that is no remark, the first of them apart: `move` and two addresses, or other (own)
abbrev pub parse_order : (ℕ → Bool) → List ℕ → List (List ℕ) → ParsedLine
parse_order is_configured first rest =
    if bytes_eq first (codes "move") then parse_move rest else parse_command is_configured first rest

-- what the fields of a line say: nothing where there is none, or where the first begins with `#` (own)
abbrev pub parse_fields : (ℕ → Bool) → List (List ℕ) → ParsedLine
parse_fields is_configured [] = Nothing
parse_fields is_configured (first ∷ rest) =
    if slice_index first 0 == 35 then Nothing else parse_order is_configured first rest
