-- What holds of the two halves of a drive at first, and what it says of hosts.
use Rattle.std.specs.Prelude.{◌≡◌, Some}
use Rattle.tape_disk.specs.Disk.{DiskState}
use Rattle.drive_commands.specs.State.{medium_in}
use Rattle.tape_buffer.specs.State.{BufferState, state_of}
use Rattle.bay_moves.specs.Elements.{BayState}
use Rattle.split_bay.specs.Fronts.{KeepsHostsHalf}
use Rattle.split_bay.specs.Halves.{Parts}
use Rattle.split_bay.specs.Rings.{SendingState}
use Rattle.split_runs.specs.Calls.{HalvesState, KeepsHalves, PartsAgain, is_told}

module _ {D : Type 0} (state : D → DiskState) where
  -- the halves into which any drive parts keep what halves keep (own)
  abbrev pub PartedHalvesKeep : Type 0
  PartedHalvesKeep =
      (bay : BayState D) (ends : SendingState) (halves : HalvesState D)
      → Parts state bay ends halves.front halves.back → PartsAgain state halves → KeepsHalves state halves

  -- that a fault was reported to hosts is that they see the medium in the drive as one that has failed (own)
  abbrev pub ToldIsSeen : Type 0
  ToldIsSeen =
      (halves : HalvesState D) (medium : BufferState D) → KeepsHostsHalf state halves.front
      → medium_in halves.front.drive.bay ≡ Some medium → is_told halves ≡ (state_of state medium).failed
