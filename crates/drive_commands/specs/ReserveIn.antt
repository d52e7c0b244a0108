-- PERSISTENT RESERVE IN.
use Rattle.std.specs.Prelude.{ℕ, List}
use Rattle.scsi_opcodes.specs.declared.commands.PrRead.{PrRead}
use Rattle.scsi_opcodes.specs.declared.commands.PrRead.TheVariants.{ReadKeys, ReadReservation}
use Rattle.scsi_opcodes.specs.Answers.{cut_to}
use Rattle.pr_core.specs.declared.states.PrState.{PrState}
use Rattle.pr_core.specs.Reads.{keys_read, reservation_read}
use Rattle.drive_commands.specs.Relations.{MachineRelation}
use Rattle.drive_commands.specs.Giving.{GivesData}

-- what is read of the reservations (SPC-4, PERSISTENT RESERVE IN)
abbrev pub data_read : PrRead → PrState → List ℕ
data_read ReadKeys state = keys_read state
data_read ReadReservation state = reservation_read state

-- the reservations are read, cut to the room that the host has (SPC-4, PERSISTENT RESERVE IN)
abbrev pub ReserveInWork : PrRead → ℕ → MachineRelation
ReserveInWork action room old answer made new =
    GivesData (cut_to room (data_read action old.reservations)) old answer made new
