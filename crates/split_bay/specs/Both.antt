-- How the disks of a medium come back, and go away again.
use Rattle.std.specs.Prelude.{◌≡◌, ◌++◌, List, [], ◌∷◌, map, false, Option, None, Some}
use Rattle.vtl_base.specs.Below.{Advances}
use Rattle.tape_disk.specs.Disk.{DiskState}
use Rattle.volume_core.specs.declared.changes.Change.{Change}
use Rattle.drive_commands.specs.declared.bays.Bay.{Bay}
use Rattle.drive_commands.specs.declared.bays.Bay.TheVariants.{Empty, Unloaded, Loaded}
use Rattle.tape_buffer.specs.Detaching.{DetachesFrom}
use Rattle.tape_buffer.specs.Moves.{IsHere, MovesUnreported, buffer_below, with_changes}
use Rattle.tape_buffer.specs.State.{BufferState, state_of}
use Rattle.tape_buffer.specs.Taking.{DisksState}
use Rattle.split_bay.specs.declared.items.Item.{Item}
use Rattle.split_bay.specs.declared.items.Item.TheVariants.{Begins, Sent}
use Rattle.split_bay.specs.declared.noted.NotedBeginning.{NotedBeginning}
use Rattle.split_bay.specs.Looks.{Looked}
use Rattle.split_bay.specs.Rings.{SendingState}

-- the ends of a ring, where one began a span more: all that was sent is received (own)
pub record BeginsNext (old new : SendingState) : Type 0 where
  pub number : new.number ≡ old.number
  pub noted : NotedBeginning
  pub sent : new.sent ≡ old.sent ++ Begins noted ∷ []

module _ {D : Type 0} (state : D → DiskState) where
  -- The disks of a medium are back, at hand. What was received is a first part of what was sent, and the rest is
  -- pending now. As far as it is stored, hosts see the medium as it is. A medium that works, and one whose fault was
  -- not reported, accepts exactly these changes (own).
  pub record Attaches (sent received : List Item) (disks : DisksState D) (old new : BufferState D) : Type 0 where
    pub waiting : List Change
    pub prefix : sent ≡ received ++ map Sent waiting
    pub new_is : new ≡ with_changes disks.buffer waiting
    pub looked : Looked (state_of state old) (state_of state new)
    pub advances :
        (state_of state disks.buffer).failed ≡ false → Advances (buffer_below state) disks.buffer waiting false new
    pub accepts : MovesUnreported state disks.buffer waiting new
    pub hand : IsHere new.held

  -- the same of disks that may be there: they are (own)
  abbrev pub AttachesTo :
      List Item → List Item → Option (DisksState D) → BufferState D → BufferState D → Type 0
  AttachesTo sent received None old new = ⊥
  AttachesTo sent received (Some disks) old new = Attaches sent received disks old new

  -- the same of what is in a drive: it is there still, loaded or not as before; from an empty one nothing waits (own)
  abbrev pub AttachesIn :
      List Item → List Item → Option (DisksState D) → Bay (BufferState D) → Bay (BufferState D) → Type 0
  AttachesIn sent received disks Empty Empty = (disks ≡ None) × (sent ≡ received)
  AttachesIn sent received disks (Unloaded old) (Unloaded new) = AttachesTo sent received disks old new
  AttachesIn sent received disks (Loaded old) (Loaded new) = AttachesTo sent received disks old new
  AttachesIn sent received disks old new = ⊥

  -- the disks of a medium went away (own)
  abbrev pub DetachesTo : BufferState D → Option (DisksState D) → BufferState D → Type 0
  DetachesTo old None new = ⊥
  DetachesTo old (Some lent) new = DetachesFrom state old lent new

  -- the same of what is in a drive; of an empty one there are none (own)
  abbrev pub DetachesIn : Bay (BufferState D) → Option (DisksState D) → Bay (BufferState D) → Type 0
  DetachesIn Empty lent Empty = lent ≡ None
  DetachesIn (Unloaded old) lent (Unloaded new) = DetachesTo old lent new
  DetachesIn (Loaded old) lent (Loaded new) = DetachesTo old lent new
  DetachesIn _ _ _ = ⊥
