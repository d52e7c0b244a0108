-- The operation codes, in one table.
use Rattle.std.specs.Prelude.{ℕ, Bool, true, false, List, [], ◌∷◌, Option, None, option_map, find, ◌==◌}
use Rattle.scsi_opcodes.specs.declared.opcodes.Opcode.{Opcode}
use Rattle.scsi_opcodes.specs.declared.opcodes.Opcode.TheVariants.{TestUnitReady, Rewind, RequestSense, ReadBlockLimits, Read, Write, WriteFilemarks, Space, Inquiry, ModeSelect, Erase, ModeSense, LoadUnload, Locate, ReadPosition, PersistentReserveIn, PersistentReserveOut}
use Rattle.scsi_opcodes.specs.declared.opcodes.Row.{Row}

-- a row: code, bytes of its blocks, exempt from all checks of state, stopped by a reservation, needs a medium (own)
abbrev pub new_row : ℕ → ℕ → Bool → Bool → Bool → Row
new_row code bytes exempt stopped on_medium = record {
  code = code;
  bytes = bytes;
  exempt = exempt;
  stopped = stopped;
  on_medium = on_medium;
}

-- the table (SPC-4, SSC-4, operation codes; the last three columns own)
abbrev pub row_of : Opcode → Row
row_of TestUnitReady = new_row 0x00 6 false false true
row_of Rewind = new_row 0x01 6 false true true
row_of RequestSense = new_row 0x03 6 true false false
row_of ReadBlockLimits = new_row 0x05 6 false false false
row_of Read = new_row 0x08 6 false true true
row_of Write = new_row 0x0a 6 false true true
row_of WriteFilemarks = new_row 0x10 6 false true true
row_of Space = new_row 0x11 6 false true true
row_of Inquiry = new_row 0x12 6 true false false
row_of ModeSelect = new_row 0x15 6 false true false
row_of Erase = new_row 0x19 6 false true true
row_of ModeSense = new_row 0x1a 6 false false false
row_of LoadUnload = new_row 0x1b 6 false true false
row_of Locate = new_row 0x2b 10 false true true
row_of ReadPosition = new_row 0x34 10 false false true
row_of PersistentReserveIn = new_row 0x5e 10 false false false
row_of PersistentReserveOut = new_row 0x5f 10 false false false

-- the known codes (own)
abbrev pub opcodes : List Opcode
opcodes =
    TestUnitReady ∷ Rewind ∷ RequestSense ∷ ReadBlockLimits ∷ Read ∷ Write ∷ WriteFilemarks ∷ Space ∷ Inquiry
    ∷ ModeSelect ∷ Erase ∷ ModeSense ∷ LoadUnload ∷ Locate ∷ ReadPosition ∷ PersistentReserveIn
    ∷ PersistentReserveOut ∷ []

-- the code with this byte (own)
abbrev pub opcode_at : ℕ → Option Opcode
opcode_at byte = find (λ opcode. (row_of opcode).code == byte) opcodes

-- the code of a command block is its first byte (SPC-4, operation code)
abbrev pub opcode_of : List ℕ → Option Opcode
opcode_of [] = None
opcode_of (byte ∷ rest) = opcode_at byte

-- the bytes of a command block of this code (SPC-4, SSC-4)
abbrev pub block_length : Opcode → ℕ
block_length opcode = (row_of opcode).bytes

-- the bytes of a command block that begins with this byte (own)
abbrev pub length_at : ℕ → Option ℕ
length_at byte = option_map block_length (opcode_at byte)

-- carried out whatever is pending, reserved or loaded (own)
abbrev pub is_exempt : Opcode → Bool
is_exempt opcode = (row_of opcode).exempt

-- stopped by another host's reservation (own, one rule for all types)
abbrev pub is_stopped_by_reservation : Opcode → Bool
is_stopped_by_reservation opcode = (row_of opcode).stopped

-- needs a medium that is loaded and has not failed (own)
abbrev pub needs_medium : Opcode → Bool
needs_medium opcode = (row_of opcode).on_medium
