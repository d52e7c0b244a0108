-- The drives of a move.
use Rattle.std.specs.Prelude.{◌≡◌, ℕ, true, Option, None, Some}
use Rattle.tape_disk.specs.Disk.{DiskState}
use Rattle.drive_commands.specs.declared.bays.Bay.{Bay}
use Rattle.drive_commands.specs.declared.bays.Bay.TheVariants.{Loaded}
use Rattle.tape_buffer.specs.State.{BufferState, state_of}
use Rattle.bay_moves.specs.Elements.{BayState, HeldState, bay_at}

module _ {D : Type 0} (state : D → DiskState) where
  -- the loaded medium is awake
  abbrev pub IsAwakeIn : Bay (BufferState D) → Type 0
  IsAwakeIn (Loaded medium) = (state_of state medium).awake ≡ true
  IsAwakeIn _ = Unit {0}

  -- the same for the drive at this address, if there is one
  abbrev pub IsAwakeBay : Option (BayState D) → Type 0
  IsAwakeBay None = Unit {0}
  IsAwakeBay (Some bay) = IsAwakeIn bay.bay

  -- the same by the address
  abbrev pub IsAwakeAt : HeldState D → ℕ → Type 0
  IsAwakeAt held address = IsAwakeBay (bay_at held.bays address)
