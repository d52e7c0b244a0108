-- What a command that has passed all checks finds.
use Rattle.std.specs.Prelude.{◌≡◌, ◌<◌, ◌≤◌, ℕ, List, length, None, Some, true}
use Rattle.vtl_base.specs.declared.limits.TheConstants.{MAX_BLOCK}
use Rattle.scsi_opcodes.specs.declared.opcodes.Opcode.{Opcode}
use Rattle.scsi_opcodes.specs.declared.commands.Command.{Command}
use Rattle.scsi_opcodes.specs.declared.commands.Command.TheVariants.{Locate}
use Rattle.scsi_opcodes.specs.Commands.{code_of, sent_length, written_length}
use Rattle.scsi_opcodes.specs.Opcodes.{needs_medium}
use Rattle.volume_core.specs.Medium.{MediumState, volume_of}
use Rattle.drive_commands.specs.State.{Machine}
use Rattle.drive_commands.specs.Checks.{medium_denial, suits}

-- a partition that a command is to go to is one of the volume's
abbrev pub HasPart : MediumState → Command → Type 0
HasPart medium (Locate object (Some part)) = part < length (volume_of medium)
HasPart medium _ = Unit {0}

-- a medium where it needs one, fields that suit the drive, and as many bytes as the block says
pub record IsPassed (machine : Machine) (command : Command) (sent : List ℕ) : Type 0 where
  pub medium : needs_medium (code_of command) ≡ true → medium_denial machine.bay ≡ None
  pub suited : suits machine command ≡ true
  pub counted : length sent ≡ sent_length command
  pub short : written_length command ≤ MAX_BLOCK

-- the fields of a command of this code suit the drive, and as many bytes came as the block says
pub record HasFields (machine : Machine) (opcode : Opcode) (command : Command) (sent : List ℕ) : Type 0 where
  pub code : code_of command ≡ opcode
  pub suited : suits machine command ≡ true
  pub counted : length sent ≡ sent_length command
  pub short : written_length command ≤ MAX_BLOCK
