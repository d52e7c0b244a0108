-- Time over several calls of a file.
use Rattle.std.proofs.Common.{◌⊎◌, inl, inr, ⊎_elim, ℕ, ◌+◌, ◌<◌, ◌≤◌, List, arith}
use Rattle.tape_disk.specs.Disk.{DiskState, Elapses}
use Rattle.file_disk.specs.RawFile.{IsAsHonest}
use Rattle.file_disk.specs.Inner.Transfers.{Ran}

-- nothing was called
pub ran_none : (state : DiskState) → Ran 0 state state
ran_none state = record {
  later = omega arith;
  nothing_else = λ t image le left. inl left;
  keeps = λ t image le left. left;
}

module _ (calls : ℕ) (old mid new : DiskState) where
  -- one call more: what a crash might leave between is one of those before or after
  pub ran_on : Ran calls old mid → Elapses mid new
      → ((t : ℕ) (image : List ℕ) → t ≤ old.moment → mid.may_leave image → old.left_since t image ⊎ new.may_leave image)
      → Ran (calls + 1) old new
  ran_on ran time between = record {
    later = omega (arith, ran.later, time.later);
    nothing_else = λ t image le left. ⊎_elim
        (λ before. ⊎_elim inl (between t image le) (ran.nothing_else t image le before)) inr
        (time.nothing_else t image (omega (arith, le, ran.later)) left);
    keeps = λ t image le left.
        time.keeps t image (omega (arith, le, ran.later)) (ran.keeps t image le left);
  }

-- time passes in one call or more
pub elapsed : (calls : ℕ) (old new : DiskState) → 0 < calls → Ran calls old new → Elapses old new
elapsed calls old new some ran = record {
  later = omega (arith, some, ran.later);
  nothing_else = ran.nothing_else;
  keeps = ran.keeps;
}

module _ (old mid new : DiskState) where
  -- honesty over two runs
  pub as_honest_both : IsAsHonest old mid → IsAsHonest mid new → IsAsHonest old new
  as_honest_both first second = record {
    stays_honest = λ honest. second.stays_honest (first.stays_honest honest);
    was_honest = λ honest. first.was_honest (second.was_honest honest);
  }
