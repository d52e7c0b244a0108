-- What is done with a drive or with a library, one event after another.
use Rattle.std.specs.Prelude.{ℕ, Option}
use Rattle.pr_core.specs.Keepers.{KeeperState}
use Rattle.volume_core.specs.Medium.{MediumState}
use Rattle.drive_commands.specs.Work.{Request}

-- whose event it is: a drive's, or a library's (own)
pub data Whose : Type 0 where
  OfDrive : Whose
  OfLibrary : Whose

-- One thing that is done with a drive or with a library; what came of it stands beside it. A drive carries a command
-- out, takes a flusher's turn, takes a medium in, has a parked one put into it, gives its medium out, is switched on
-- with this medium in it, if any, and with this keeper. In a library such an event is one of the drive with a number;
-- or a cartridge is moved from one place to another, or all that is pending is written out (SAM-5; SMC-3; SPC-4; turn,
-- keeper and writing out own).
pub data Event : Whose → Type 0 where
  Execute : (request : Request) → Event OfDrive
  FlushTurn : Event OfDrive
  Load : (medium : MediumState) → Event OfDrive
  Insert : (medium : MediumState) → Event OfDrive
  Unload : Event OfDrive
  PowerOn : (medium : Option MediumState) → (keeper : KeeperState) → Event OfDrive
  InDrive : (number : ℕ) → (event : Event OfDrive) → Event OfLibrary
  Carry : (from : ℕ) → (to : ℕ) → Event OfLibrary
  WriteOut : Event OfLibrary
