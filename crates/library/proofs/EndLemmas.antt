-- Drives at the end of a library, one after another from the last number down.
use Rattle.std.proofs.Common.{zero, suc, ◌≡◌, ◌+◌, ◌-◌, inl, inr, ℕ, nat_le, Bool, true, false, List, [], ◌∷◌, length, get_or, Option, None, is_some, Result, Ok, Err, OnOk, OnErr, cond, refl, ◌∙◌, ap, sym, subst, arith}
use Rattle.std.proofs.lemmas.Bool.Decides.{nat_tests}
use Rattle.std.proofs.lemmas.List.Sums.{sum_by-cons}
use Rattle.tape_disk.specs.Disk.{DiskState}
use Rattle.ledgers.specs.Ledgers.{Gathered, no_share}
use Rattle.bay_moves.specs.Elements.{BayState, bay_at}
use Rattle.bay_moves.specs.Finish.{HasFailedAt, IsWrittenAt}
use Rattle.bay_moves.specs.declared.finishing.Unwritten.{Unwritten}
use Rattle.library.specs.Counts.{count_of_drive, one_if_there, or_none}
use Rattle.library.specs.Ends.{counts_of}
use Rattle.library.specs.Inner.Ending.{HaveEnded, OfEach, OneHasFailed, worse_of}
use Rattle.library.specs.Keeps.{IsLeftAt}

both : {b c : Bool} {bs cs : List Bool} → b ≡ c → bs ≡ cs → b ∷ bs ≡ c ∷ cs
both {b = b} {cs = cs} one rest = ap (λ (xs : List Bool). b ∷ xs) rest ∙ ap (λ (x : Bool). x ∷ cs) one

module _ {D : Type 0} (state : D → DiskState) where
  ok_on : (bay : Option (BayState D)) (bays : List (Option (BayState D))) (one all : Result Unit Unwritten)
      → OnOk one (IsWrittenAt state bay) → OnOk all (OfEach (IsWrittenAt state) bays)
      → OnOk (worse_of all one) (OfEach (IsWrittenAt state) (bay ∷ bays))
  ok_on bay bays (Ok done) (Ok every) written before = (written, before)
  ok_on bay bays (Err unwritten) (Ok every) written before = tt
  ok_on bay bays one (Err unwritten) written before = tt

  err_on : (bay : Option (BayState D)) (bays : List (Option (BayState D))) (one all : Result Unit Unwritten)
      → OnErr one (HasFailedAt state bay) → OnErr all (OneHasFailed state bays)
      → OnErr (worse_of all one) (OneHasFailed state (bay ∷ bays))
  err_on bay bays (Ok done) (Ok every) failed before = tt
  err_on bay bays (Err unwritten) (Ok every) failed before = inl failed
  err_on bay bays one (Err unwritten) failed before = inr before

  -- no drive has ended yet
  pub none_ended : {X : Type 0} (shared : List (Option X)) (bays : List (Option (BayState D))) (gathered : Gathered)
      → length shared ≡ 0 → length bays ≡ 0 → gathered ≡ no_share → HaveEnded state shared bays gathered (Ok tt)
  none_ended [] [] gathered none nor is =
      record {
        there = refl;
        shares = ap (λ (g : Gathered). g.shares) is;
        changes = ap (λ (g : Gathered). g.changes) is;
        left = tt;
        ok = tt;
        err = tt;
      }
  none_ended (x ∷ shared) bays gathered none nor is = absurd (omega (arith, none))
  none_ended [] (bay ∷ bays) gathered none nor is = absurd (omega (arith, nor))

  -- one more drive has ended, before the others in the list
  pub one_ended : {X : Type 0} (x : Option X) (shared : List (Option X)) (bay : Option (BayState D))
      (bays : List (Option (BayState D))) (old new : Gathered) (one all : Result Unit Unwritten)
      → is_some bay ≡ is_some x → new.shares ≡ old.shares + one_if_there x
      → new.changes ≡ old.changes + or_none (count_of_drive bay) → IsLeftAt state bay
      → OnOk one (IsWrittenAt state bay) → OnErr one (HasFailedAt state bay) → HaveEnded state shared bays old all
      → HaveEnded state (x ∷ shared) (bay ∷ bays) new (worse_of all one)
  one_ended {X = X} x shared bay bays old new one all there shares changes left ok err so =
      record {
        there = both there so.there;
        shares = omega (arith, shares, so.shares, sum_by-cons (one_if_there {X = X}) x shared);
        changes = omega (arith, changes, so.changes, sum_by-cons or_none (count_of_drive bay) (counts_of bays));
        left = (left, so.left);
        ok = ok_on bay bays one all ok so.ok;
        err = err_on bay bays one all err so.err;
      }

  failed_at : (bays : List (Option (BayState D))) → OneHasFailed state bays
      → (place : ℕ) × HasFailedAt state (get_or bays place None)
  failed_at [] one = absurd one
  failed_at (bay ∷ bays) (inl here) = (0, here)
  failed_at (bay ∷ bays) (inr there) = let found = failed_at bays there in (suc found.0, found.1)

  stands_at : (bays : List (Option (BayState D))) (place : ℕ) → bay_at bays (place + 1) ≡ get_or bays place None
  stands_at bays place =
      let is : nat_le 1 (place + 1) ≡ true = grind (arith, nat_tests) in
      let at : place + 1 - 1 ≡ place = omega arith in
      ap (λ (b : Bool). cond b (get_or bays (place + 1 - 1) None) None) is
      ∙ ap (λ (n : ℕ). get_or bays n None) at

  pub one_failed : (bays : List (Option (BayState D))) → OneHasFailed state bays
      → (number : ℕ) × HasFailedAt state (bay_at bays number)
  one_failed bays one =
      let found = failed_at bays one in (
        found.0 + 1,
        subst (λ (bay : Option (BayState D)). HasFailedAt state bay) (sym (stands_at bays found.0)) found.1,
      )

module _ {D : Type 0} (P : Option (BayState D) → Type 0) (none : P None) where
  -- a fact of each drive in a list, and of an empty place, holds by number
  each_at : (bays : List (Option (BayState D))) (place : ℕ) → OfEach P bays → P (get_or bays place None)
  each_at [] place all = none
  each_at (bay ∷ bays) zero all = all.0
  each_at (bay ∷ bays) (suc place) all = each_at bays place all.1

  if_there : (bay : Option (BayState D)) (there : Bool) → P bay → P (cond there bay None)
  if_there bay true so = so
  if_there bay false so = none

  pub by_number : (bays : List (Option (BayState D))) → OfEach P bays → (number : ℕ) → P (bay_at bays number)
  by_number bays all number =
      if_there (get_or bays (number - 1) None) (nat_le 1 number) (each_at bays (number - 1) all)
