-- The work of each command, once it has passed all checks.
use Rattle.std.specs.Prelude.{ℕ, List, Bool, true, false}
use Rattle.scsi_opcodes.specs.declared.commands.Command.{Command}
use Rattle.scsi_opcodes.specs.declared.commands.Command.TheVariants.{TestUnitReady, Rewind, RequestSense, ReadBlockLimits, Read, Write, WriteFilemarks, Space, Inquiry, Erase, Locate, ReadPosition, PersistentReserveIn, PersistentReserveOut, ModeSelect, ModeSense, LoadUnload}
use Rattle.scsi_opcodes.specs.Answers.{block_limits, cut_to, inquiry_data}
use Rattle.scsi_opcodes.specs.Commands.{code_of}
use Rattle.scsi_opcodes.specs.Opcodes.{needs_medium}
use Rattle.drive_commands.specs.Relations.{MediumRelation, MachineRelation, Idles}
use Rattle.drive_commands.specs.Erase.{EraseWork}
use Rattle.drive_commands.specs.Locate.{LocateWork}
use Rattle.drive_commands.specs.Marks.{MarksWork}
use Rattle.drive_commands.specs.LoadUnload.{LoadUnloadWork}
use Rattle.drive_commands.specs.Mode.{ModeSelectWork, ModeSenseWork}
use Rattle.drive_commands.specs.OnMedium.{OnMedium}
use Rattle.drive_commands.specs.Read.{ReadWork}
use Rattle.drive_commands.specs.RequestSense.{RequestSenseWork}
use Rattle.drive_commands.specs.ReserveIn.{ReserveInWork}
use Rattle.drive_commands.specs.ReserveOut.{ReserveOutWork}
use Rattle.drive_commands.specs.Rewind.{RewindWork}
use Rattle.drive_commands.specs.Space.{SpaceWork}
use Rattle.drive_commands.specs.Giving.{GivesData, ReadPositionWork}
use Rattle.drive_commands.specs.Write.{WriteWork}

-- what a host sends to a drive: who it is, a command block, and data (SAM-5)
pub record Request : Type 0 where
  pub nexus : ℕ
  pub cdb : List ℕ
  pub sent : List ℕ

-- the work of a command that needs a medium, which concerns that and the position alone (SSC-4)
abbrev pub MediumWork : Type 0 → Command → Bool → List ℕ → MediumRelation
MediumWork honest TestUnitReady buffered sent old answer made new = Idles old answer made new
MediumWork honest Rewind buffered sent old answer made new = RewindWork old answer made new
MediumWork honest (Read length suppress) buffered sent old answer made new =
    ReadWork honest suppress length old answer made new
MediumWork honest (Write length) buffered sent old answer made new =
    WriteWork buffered sent old answer made new
MediumWork honest (WriteFilemarks count immediate) buffered sent old answer made new =
    MarksWork count immediate old answer made new
MediumWork honest (Space code count) buffered sent old answer made new = SpaceWork code count old answer made new
MediumWork honest Erase buffered sent old answer made new = EraseWork buffered old answer made new
MediumWork honest (Locate object part) buffered sent old answer made new =
    LocateWork object part old answer made new
MediumWork honest ReadPosition buffered sent old answer made new = ReadPositionWork old answer made new
MediumWork honest (RequestSense room) buffered sent old answer made new = ⊥
MediumWork honest ReadBlockLimits buffered sent old answer made new = ⊥
MediumWork honest (Inquiry room) buffered sent old answer made new = ⊥
MediumWork honest (PersistentReserveIn action room) buffered sent old answer made new = ⊥
MediumWork honest (PersistentReserveOut action bytes) buffered sent old answer made new = ⊥
MediumWork honest (ModeSelect length) buffered sent old answer made new = ⊥
MediumWork honest (ModeSense room bare) buffered sent old answer made new = ⊥
MediumWork honest (LoadUnload load) buffered sent old answer made new = ⊥

-- the work of a command that needs no medium, for a nexus that sent these bytes (SPC-4, SSC-4; honesty own)
abbrev pub DriveWork : Type 0 → Command → ℕ → List ℕ → MachineRelation
DriveWork honest (RequestSense room) nexus sent old answer made new = RequestSenseWork room nexus old answer made new
DriveWork honest ReadBlockLimits nexus sent old answer made new = GivesData block_limits old answer made new
DriveWork honest (Inquiry room) nexus sent old answer made new =
    GivesData (cut_to room inquiry_data) old answer made new
DriveWork honest (PersistentReserveIn action room) nexus sent old answer made new =
    ReserveInWork action room old answer made new
DriveWork honest (PersistentReserveOut action bytes) nexus sent old answer made new =
    ReserveOutWork action nexus sent old answer made new
DriveWork honest (ModeSelect length) nexus sent old answer made new = ModeSelectWork nexus sent old answer made new
DriveWork honest (ModeSense room bare) nexus sent old answer made new = ModeSenseWork bare room old answer made new
DriveWork honest (LoadUnload load) nexus sent old answer made new =
    LoadUnloadWork honest load nexus old answer made new
DriveWork honest _ nexus sent old answer made new = ⊥

-- the work of a command, by whether it needs a medium (own)
abbrev pub WorkBy : Bool → Type 0 → Command → ℕ → List ℕ → MachineRelation
WorkBy true honest command nexus sent old answer made new =
    OnMedium (MediumWork honest command old.buffered sent) old answer made new
WorkBy false honest command nexus sent old answer made new = DriveWork honest command nexus sent old answer made new

-- the work of a command of a nexus that sent these bytes; where it is not known whether the medium is honest, the bytes
-- of a block and the volume of a side are open, and nothing else (SPC-4, SSC-4)
abbrev pub Work : Type 0 → Command → ℕ → List ℕ → MachineRelation
Work honest command nexus sent old answer made new =
    WorkBy (needs_medium (code_of command)) honest command nexus sent old answer made new
