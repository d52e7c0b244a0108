-- The invariants of the drives of a library, and of the cartridges in its slots.
use Rattle.std.specs.Prelude.{◌≡◌, ℕ, false, List, All, Option, None, Some}
use Rattle.tape_disk.specs.Disk.{DiskState}
use Rattle.drive_commands.specs.State.{IsBayPositioned}
use Rattle.tape_buffer.specs.State.{BufferState, state_of}
use Rattle.bay_moves.specs.Bays.{KeepsBoth, KeepsCartridge}
use Rattle.bay_moves.specs.Elements.{BayState, bay_at}
use Rattle.bay_moves.specs.Finish.{TurnsAt}

module _ {D : Type 0} (state : D → DiskState) where
  -- The invariant of a drive: what a crash may leave now of its disks, its cartridge's and its store's; and its
  -- position is on the loaded medium (own).
  pub record KeepsDrive (bay : BayState D) : Type 0 where
    pub disks : KeepsBoth state bay
    pub positioned : IsBayPositioned (state_of state) bay.bay bay.position

  -- the same for a drive, if there is one (own)
  abbrev pub KeepsAt : Option (BayState D) → Type 0
  KeepsAt None = Unit {0}
  KeepsAt (Some bay) = KeepsDrive bay

  -- the invariant of a cartridge in a slot: it is closed, and what a crash may leave now of its two disks (own)
  pub record KeepsShelved (medium : BufferState D) : Type 0 where
    pub closed : (state_of state medium).awake ≡ false
    pub keeps : KeepsCartridge state medium

  -- the same for the content of a slot, if it is full (own)
  abbrev pub KeepsShelvedIn : Option (BufferState D) → Type 0
  KeepsShelvedIn None = Unit {0}
  KeepsShelvedIn (Some medium) = KeepsShelved medium

  -- the same for each slot (own)
  abbrev pub KeepsSlots : List (Option (BufferState D)) → Type 0
  KeepsSlots slots = All KeepsShelvedIn slots

  -- the same for slots and for two drives, if they are there (own)
  pub record KeepsLent (slots : List (Option (BufferState D))) (source destination : Option (BayState D)) : Type
      0 where
    pub shelved : KeepsSlots slots
    pub at_source : KeepsAt source
    pub at_destination : KeepsAt destination

  -- A flusher's turn of a drive with its invariant has left this drive. At each moment of the turn a crash leaves what
  -- the turn's event says. The drive still has its invariant (own).
  pub record IsLeftBy (old bay : BayState D) : Type 0 where
    pub old_keeps : KeepsDrive old
    pub turns : TurnsAt state (Some old) (Some bay)
    pub keeps : KeepsDrive bay

  -- the same for some drive before the turn (own)
  pub record IsLeftByTurn (bay : BayState D) : Type 0 where
    pub old : BayState D
    pub left : IsLeftBy old bay

  -- the same for a drive, if there is one (own)
  abbrev pub IsLeftAt : Option (BayState D) → Type 0
  IsLeftAt None = Unit {0}
  IsLeftAt (Some bay) = IsLeftByTurn bay

  -- slots and drives at the end of a library: each drive took a turn, and all have their invariants (own)
  pub record AreLeft (slots : List (Option (BufferState D))) (bays : List (Option (BayState D))) : Type 0 where
    pub shelved : KeepsSlots slots
    pub drives : (number : ℕ) → IsLeftAt (bay_at bays number)
