-- Why a store is not opened, by the error of its side.
use Rattle.gate_journal.specs.declared.error.OpenError.{OpenError}
use Rattle.gate_journal.specs.declared.error.OpenError.TheVariants as Sides
use Rattle.aptpl_store.specs.declared.error.StoreError.{StoreError}
use Rattle.aptpl_store.specs.declared.error.StoreError.TheVariants.{NotOurs, Damaged, BadRecord, Device, NoMemory}

-- the same cause, for a store (own)
abbrev pub store_error : OpenError → StoreError
store_error Sides.NotOurs = NotOurs
store_error (Sides.Damaged at) = Damaged at
store_error (Sides.BadRecord at) = BadRecord at
store_error (Sides.Device fault) = Device fault
store_error Sides.NoMemory = NoMemory
