-- Laws of the table.
use Rattle.std.specs.Prelude.{◌≡◌, Some}
use Rattle.scsi_opcodes.specs.declared.opcodes.Opcode.{Opcode}
use Rattle.scsi_opcodes.specs.Opcodes.{row_of, opcode_at}

-- each code is found by its own byte (own)
abbrev pub CodesDiffer : Type 0
CodesDiffer = (opcode : Opcode) → opcode_at (row_of opcode).code ≡ Some opcode
