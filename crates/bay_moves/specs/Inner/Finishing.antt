-- How far a library has been written out.
use Rattle.std.specs.Prelude.{◌≡◌, ◌≤◌, ◌<◌, ℕ, Result, OnOk, OnErr}
use Rattle.tape_disk.specs.Disk.{DiskState}
use Rattle.bay_moves.specs.Elements.{HeldState, bay_at}
use Rattle.bay_moves.specs.Finish.{HasFailedAt, IsWrittenAt, TurnsAt}
use Rattle.bay_moves.specs.declared.finishing.Unwritten.{Unwritten}

module _ {D : Type 0} (state : D → DiskState) where
  -- the drives up to this number took a turn, and the others are unchanged
  pub record IsWrittenUpTo (count : ℕ) (old : HeldState D) (result : Result Unit Unwritten) (new : HeldState D) : Type
      0 where
    pub turns : (number : ℕ) → number ≤ count → TurnsAt state (bay_at old.bays number) (bay_at new.bays number)
    pub others : (number : ℕ) → count < number → bay_at new.bays number ≡ bay_at old.bays number
    pub slots : new.slots ≡ old.slots
    pub ok : OnOk result ((number : ℕ) → number ≤ count → IsWrittenAt state (bay_at new.bays number))
    pub err : OnErr result ((number : ℕ) × (number ≤ count) × HasFailedAt state (bay_at new.bays number))
