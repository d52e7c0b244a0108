-- Drives that are taken out of their places while they are lent to a move.
use Rattle.std.specs.Prelude.{◌-◌, ℕ, Some, slice_set}
use Rattle.tape_disk.specs.Disk.{DiskState}
use Rattle.scsi_sense.specs.declared.replies.Reply.{Reply}
use Rattle.bay_moves.specs.Elements.{BayState, HeldState}
use Rattle.bay_moves.specs.Moves.{KeepsBays, KeepsCartridges, MovesMedium}

module _ {D : Type 0} where
  -- the library with this drive at the place of this number
  abbrev pub with_bay : ℕ → BayState D → HeldState D → HeldState D
  with_bay number bay held = record held { bays = slice_set held.bays (number - 1) (Some bay) }

module _ {D : Type 0} (state : D → DiskState) where
  -- all facts of a move
  pub record IsCarried (from to : ℕ) (reply : Reply) (old new : HeldState D) : Type 0 where
    pub answer : MovesMedium state old from to reply new
    pub keeps : KeepsCartridges state old from to reply new
    pub bays : KeepsBays old new
