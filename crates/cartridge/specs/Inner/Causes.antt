-- Why a cartridge is not opened, by why its side is not.
use Rattle.gate_journal.specs.declared.error.OpenError.{OpenError}
use Rattle.gate_journal.specs.declared.error.OpenError.TheVariants as Sides
use Rattle.cartridge.specs.declared.error.CartridgeError.{CartridgeError}
use Rattle.cartridge.specs.declared.error.CartridgeError.TheVariants.{NotOurs, Damaged, BadRecord, Device, NoMemory}

-- the same cause, of a cartridge (own)
abbrev pub cartridge_error : OpenError → CartridgeError
cartridge_error Sides.NotOurs = NotOurs
cartridge_error (Sides.Damaged at) = Damaged at
cartridge_error (Sides.BadRecord at) = BadRecord at
cartridge_error (Sides.Device fault) = Device fault
cartridge_error Sides.NoMemory = NoMemory
