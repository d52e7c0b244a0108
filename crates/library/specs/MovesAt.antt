-- Moves of cartridges in a library whose drives threads share.
use Rattle.std.specs.Prelude.{◌≡◌, ◌≢◌, ℕ, Bool, List, Option, None, is_some}
use Rattle.tape_disk.specs.Disk.{DiskState}
use Rattle.scsi_sense.specs.declared.replies.Reply.{Reply}
use Rattle.tape_buffer.specs.State.{BufferState}
use Rattle.bay_moves.specs.Elements.{BayState}
use Rattle.bay_moves.specs.Lent.{InEach}
use Rattle.bay_moves.specs.Moves.{KeepsCartridges, MovesMedium}
use Rattle.library.specs.Counts.{has_drive}
use Rattle.library.specs.Keeps.{KeepsLent}

-- the slots of a library, and how many moves were made in it (own)
pub record SlotsState (D : Type 0) : Type 0 where
  pub slots : List (Option (BufferState D))
  pub moves : ℕ

module _ {D : Type 0} (state : D → DiskState) where
  -- In each library that has these slots, and these drives at the two addresses, a cartridge is moved, and none is
  -- lost. Slots and drives have their invariants before the move and after it (own).
  pub record MovesEach
      (from to : ℕ) (slots : List (Option (BufferState D))) (source destination : Option (BayState D)) (reply : Reply)
      (slots' : List (Option (BufferState D))) (source' destination' : Option (BayState D)) : Type 0 where
    pub answer :
        InEach from to slots source destination slots' source' destination'
        (λ old new. MovesMedium state old from to reply new)
    pub keeps :
        InEach from to slots source destination slots' source' destination'
        (λ old new. KeepsCartridges state old from to reply new)
    pub known : KeepsLent state slots source destination
    pub left : KeepsLent state slots' source' destination'

  -- A move is answered as MOVE MEDIUM by some slots, and by some drive at each address that is the number of a drive in
  -- this list. A drive at both addresses is lent once (SMC-3, MOVE MEDIUM; the rest own).
  pub record IsMovedAmong (row : List Bool) (from to : ℕ) (reply : Reply) : Type 0 where
    pub slots : List (Option (BufferState D))
    pub source : Option (BayState D)
    pub destination : Option (BayState D)
    pub slots' : List (Option (BufferState D))
    pub source' : Option (BayState D)
    pub destination' : Option (BayState D)
    pub at_source : is_some source ≡ has_drive row from
    pub at_destination : from ≢ to → is_some destination ≡ has_drive row to
    pub once : from ≡ to → destination ≡ None
    pub moves : MovesEach from to slots source destination reply slots' source' destination'
