-- Moves of cartridges on the slots of a library and the drives at the two addresses, which are lent.
use Rattle.std.specs.Prelude.{◌≡◌, ◌≢◌, ◌≤◌, ℕ, ◌-◌, List, length, slice_set, Option, None, Some}
use Rattle.std.specs.Borrow.{MutBor}
use Rattle.std.proofs.Common.{◌⊎◌, inl, inr}
use Rattle.vtl_base.specs.declared.limits.TheConstants.{DRIVES}
use Rattle.tape_buffer.specs.State.{BufferState}
use Rattle.bay_moves.specs.Elements.{BayState, HeldState, bay_at}

-- the element address of a drive's place is the drive's number (SMC-3, element addresses; which they are, own)
pub record IsDriveAddress (address : ℕ) : Type 0 where
  pub least : 1 ≤ address
  pub most : address ≤ DRIVES

module _ {X : Type 0} where
  -- the lent value, if there is one (own)
  abbrev pub lent : Option (MutBor X) → Option X
  lent None = None
  lent (Some given) = Some given.now

  -- the lent value as it is returned (own)
  abbrev pub back : Option (MutBor X) → Unit {0} ⊎ ((MutBor X × Unit {0}) ⊎ ⊥) → Option X
  back None left = None
  back (Some given) (inr (inl left)) = Some left.0.now
  back (Some given) _ = None

module _ {D : Type 0} where
  -- the drives, with this one, if there is one, at this number (own)
  abbrev pub with_drive : ℕ → Option (BayState D) → List (Option (BayState D)) → List (Option (BayState D))
  with_drive number None bays = bays
  with_drive number (Some bay) bays = slice_set bays (number - 1) (Some bay)

  -- these are the drives at the two addresses; a drive at both is lent as the source alone (own)
  pub record AreNamed (from to : ℕ) (source destination : Option (BayState D)) (bays : List (Option (BayState D))) :
      Type 0 where
    pub all : length bays ≡ DRIVES
    pub at_source : bay_at bays from ≡ source
    pub at_destination : from ≢ to → bay_at bays to ≡ destination
    pub once : from ≡ to → destination ≡ None

  -- a lent drive, if there is one, keeps its count of changes (own)
  abbrev pub KeepsCount : Option (BayState D) → Option (BayState D) → Type 0
  KeepsCount None None = Unit {0}
  KeepsCount (Some bay) (Some left) = left.accepted ≡ bay.accepted
  KeepsCount _ _ = ⊥

  -- in each library that has these slots, and these drives at the two addresses, the relation holds before and after,
  -- and the other drives stay (own)
  abbrev pub InEach :
      ℕ → ℕ → List (Option (BufferState D)) → Option (BayState D) → Option (BayState D)
      → List (Option (BufferState D)) → Option (BayState D) → Option (BayState D)
      → (HeldState D → HeldState D → Type 0) → Type 0
  InEach from to slots source destination slots' source' destination' P =
      (bays : List (Option (BayState D))) → AreNamed from to source destination bays
      → P (record { slots = slots; bays = bays })
      (record { slots = slots'; bays = with_drive to destination' (with_drive from source' bays) })
