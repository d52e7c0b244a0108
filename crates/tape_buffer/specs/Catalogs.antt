-- The catalog of a medium.
use Rattle.std.specs.Prelude.{◌≡◌, List, true, false, Option, None, Some}
use Rattle.tape_disk.specs.Disk.{DiskState}
use Rattle.volume_core.specs.Medium.{volume_of}
use Rattle.object_index.specs.Places.{PlacedPart}
use Rattle.object_index.specs.Shapes.{IsIndexOf}
use Rattle.tape_buffer.specs.State.{BufferState, state_of}

-- Exactly a medium that is awake has a catalog: with the capacities, kinds and lengths of the volume that the medium is
-- seen as (own).
abbrev pub IsCataloged : {D : Type 0} → (D → DiskState) → BufferState D → Option (List PlacedPart) → Type 0
IsCataloged state buffer None = (state_of state buffer).awake ≡ false
IsCataloged state buffer (Some index) =
    ((state_of state buffer).awake ≡ true) × IsIndexOf index (volume_of (state_of state buffer))
