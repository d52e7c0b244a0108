-- Drives are written out one after another.
use Rattle.std.proofs.Common.{◌≡◌, ◌≢◌, inr, ℕ, ◌+◌, ◌≤◌, ◌<◌, Bool, true, false, length, Option, None, Some, Result, Ok, Err, OnOk, OnErr, is_err, refl, sym, ap, ◌∙◌, subst, nat_le, ◌==◌, ◌-◌, cond, get_or, arith}
use Rattle.std.proofs.lemmas.Bool.Decides.{nat_tests}
use Rattle.tape_disk.specs.Disk.{DiskState}
use Rattle.bay_moves.specs.Elements.{BayState, HeldState, bay_at}
use Rattle.bay_moves.specs.Finish.{HasFailedAt, IsWrittenAt, TurnsAt, WritesOut}
use Rattle.bay_moves.specs.Inner.Finishing.{IsWrittenUpTo}
use Rattle.bay_moves.specs.declared.finishing.Unwritten.{Unwritten}
use Rattle.bay_moves.proofs.BayLemmas.{at_no_place}

module _ {D : Type 0} (state : D → DiskState) where
  -- without a drive, none takes a turn
  pub none_turn : (old new : Option (BayState D)) → old ≡ None → new ≡ None → TurnsAt state old new
  none_turn old new was is =
      subst (λ (b : Option (BayState D)). TurnsAt state b new) (sym was)
      (subst (λ (b : Option (BayState D)). TurnsAt state None b) (sym is) tt)

  pub some_turn : (old new : Option (BayState D)) (bay left : BayState D) → old ≡ Some bay → new ≡ Some left
      → TurnsAt state (Some bay) (Some left) → TurnsAt state old new
  some_turn old new bay left was is turns =
      subst (λ (b : Option (BayState D)). TurnsAt state b new) (sym was)
      (subst (λ (b : Option (BayState D)). TurnsAt state (Some bay) b) (sym is) turns)

  pub on_failed : (result : Result Unit Unwritten) (found : Option (BayState D)) (bay : BayState D)
      → found ≡ Some bay → OnErr result (HasFailedAt state (Some bay)) → OnErr result (HasFailedAt state found)
  on_failed result found bay is holds =
      subst (λ (b : Option (BayState D)). OnErr result (HasFailedAt state b)) (sym is) holds

  -- before the first drive
  pub none_yet : (held : HeldState D) → IsWrittenUpTo state 0 held (Ok tt) held
  none_yet held = record {
    turns = λ number least. zero_turns number least;
    others = λ number above. refl;
    slots = refl;
    ok = λ number least. zero_written number least;
    err = tt;
  }
    where
      no_bay : (number : ℕ) → number ≤ 0 → bay_at held.bays number ≡ None
      no_bay number least =
          let is : nat_le 1 number ≡ false = grind (arith, nat_tests) in
          ap (λ (b : Bool). cond b (get_or held.bays (number - 1) None) None) is

      zero_turns : (number : ℕ) → number ≤ 0 → TurnsAt state (bay_at held.bays number) (bay_at held.bays number)
      zero_turns number least =
          subst (λ (b : Option (BayState D)). TurnsAt state b b) (sym (no_bay number least)) tt

      zero_written : (number : ℕ) → number ≤ 0 → IsWrittenAt state (bay_at held.bays number)
      zero_written number least =
          subst (λ (b : Option (BayState D)). IsWrittenAt state b) (sym (no_bay number least)) tt

  -- one drive more
  pub record TurnsOne (number : ℕ) (old : HeldState D) (result : Result Unit Unwritten) (new : HeldState D) : Type
      0 where
    pub turns : TurnsAt state (bay_at old.bays number) (bay_at new.bays number)
    pub others : (other : ℕ) → other ≢ number → bay_at new.bays other ≡ bay_at old.bays other
    pub slots : new.slots ≡ old.slots
    pub ok : OnOk result (IsWrittenAt state (bay_at new.bays number))
    pub err : OnErr result (HasFailedAt state (bay_at new.bays number))

  -- the drives up to one more were written out
  step_turns : (count : ℕ) (old mid new : HeldState D) (result one : Result Unit Unwritten)
      → IsWrittenUpTo state count old result mid → TurnsOne (count + 1) mid one new
      → (number : ℕ) → number ≤ count + 1 → TurnsAt state (bay_at old.bays number) (bay_at new.bays number)
  step_turns count old mid new result one so_far next number least = by (number == (count + 1)) refl
    where
      by : (b : Bool) → (number == (count + 1)) ≡ b → TurnsAt state (bay_at old.bays number) (bay_at new.bays number)
      by true is =
          let here : number ≡ count + 1 = grind (arith, nat_tests) in
          let was : bay_at mid.bays (count + 1) ≡ bay_at old.bays (count + 1) =
          so_far.others (count + 1) (omega (arith)) in
          subst (λ (n : ℕ). TurnsAt state (bay_at old.bays n) (bay_at new.bays n)) (sym here)
          (subst (λ (b : Option (BayState D)). TurnsAt state b (bay_at new.bays (count + 1))) was next.turns)
      by false is =
          let apart : number ≢ count + 1 =
          λ same. let no_more : (number == (count + 1)) ≡ true = grind (arith, nat_tests) in absurd (cc) in
          let below : number ≤ count = omega (arith, least, apart) in
          subst (λ (b : Option (BayState D)). TurnsAt state (bay_at old.bays number) b)
          (sym (next.others number apart)) (so_far.turns number below)

  -- a drive whose medium has failed
  pub step_failed : (count : ℕ) (old mid new : HeldState D) (result one last : Result Unit Unwritten)
      → IsWrittenUpTo state count old result mid → TurnsOne (count + 1) mid one new → is_err one ≡ true
      → is_err last ≡ true → IsWrittenUpTo state (count + 1) old last new
  step_failed count old mid new result one (Ok done) so_far next fails is = absurd (cc)
  step_failed count old mid new result (Ok done) (Err error) so_far next fails is = absurd (cc)
  step_failed count old mid new result (Err reason) (Err error) so_far next fails is = record {
    turns = step_turns count old mid new result (Err reason) so_far next;
    others = λ number above.
        next.others number (λ same. let clash : number ≤ count + 1 = omega (arith, same) in omega (arith, clash, above))
        ∙ so_far.others number (omega (arith, above));
    slots = next.slots ∙ so_far.slots;
    ok = tt;
    err = (count + 1, omega (arith), next.err);
  }

  -- a drive whose medium works
  pub step_fine : (count : ℕ) (old mid new : HeldState D) (result one : Result Unit Unwritten)
      → IsWrittenUpTo state count old result mid → TurnsOne (count + 1) mid one new → is_err one ≡ false
      → IsWrittenUpTo state (count + 1) old result new
  step_fine count old mid new result (Err reason) so_far next fine = absurd (cc)
  step_fine count old mid new (Ok done) (Ok one) so_far next fine = record {
    turns = step_turns count old mid new (Ok done) (Ok one) so_far next;
    others = λ number above.
        next.others number (λ same. let clash : number ≤ count + 1 = omega (arith, same) in omega (arith, clash, above))
        ∙ so_far.others number (omega (arith, above));
    slots = next.slots ∙ so_far.slots;
    ok = λ number least. by number least (number == (count + 1)) refl;
    err = tt;
  }
    where
      by : (number : ℕ) → number ≤ count + 1 → (b : Bool) → (number == (count + 1)) ≡ b
          → IsWrittenAt state (bay_at new.bays number)
      by number least true is =
          let here : number ≡ count + 1 = grind (arith, nat_tests) in
          subst (λ (n : ℕ). IsWrittenAt state (bay_at new.bays n)) (sym here) next.ok
      by number least false is =
          let apart : number ≢ count + 1 =
          λ same. let no_more : (number == (count + 1)) ≡ true = grind (arith, nat_tests) in absurd (cc) in
          let below : number ≤ count = omega (arith, least, apart) in
          subst (λ (b : Option (BayState D)). IsWrittenAt state b) (sym (next.others number apart))
          (so_far.ok number below)
  step_fine count old mid new (Err reason) (Ok one) so_far next fine = record {
    turns = step_turns count old mid new (Err reason) (Ok one) so_far next;
    others = λ number above.
        next.others number (λ same. let clash : number ≤ count + 1 = omega (arith, same) in omega (arith, clash, above))
        ∙ so_far.others number (omega (arith, above));
    slots = next.slots ∙ so_far.slots;
    ok = tt;
    err =
        let failed = so_far.err in (
          failed.0,
          omega (arith, failed.1),
          subst (λ (b : Option (BayState D)). HasFailedAt state b)
              (sym (next.others failed.0 (λ same. let clash : failed.0 ≤ count = failed.1 in
              omega (arith, same, clash)))) failed.2,
        );
  }

  -- all drives
  pub all_written : (old new : HeldState D) (result : Result Unit Unwritten) → length old.bays ≡ 16
      → length new.bays ≡ 16 → IsWrittenUpTo state 16 old result new → WritesOut state old result new
  all_written old new result long longer so_far = record {
    turns = λ number. turns_by number (nat_le number 16) refl;
    slots = so_far.slots;
    ok = ok_by result so_far.ok;
    err = err_by result so_far.err;
  }
    where
      none : (held : HeldState D) → length held.bays ≡ 16 → (number : ℕ) → nat_le number 16 ≡ false
          → bay_at held.bays number ≡ None
      none held is number beyond =
          let above : 16 < number = grind (arith, nat_tests) in
          at_no_place held.bays number is (inr above)

      turns_by : (number : ℕ) (b : Bool) → nat_le number 16 ≡ b
          → TurnsAt state (bay_at old.bays number) (bay_at new.bays number)
      turns_by number true is = so_far.turns number (grind (arith, nat_tests))
      turns_by number false is =
          none_turn (bay_at old.bays number) (bay_at new.bays number) (none old long number is)
          (none new longer number is)

      written_by : ((number : ℕ) → number ≤ 16 → IsWrittenAt state (bay_at new.bays number)) → (number : ℕ) (b : Bool)
          → nat_le number 16 ≡ b → IsWrittenAt state (bay_at new.bays number)
      written_by holds number true is = holds number (grind (arith, nat_tests))
      written_by holds number false is =
          subst (λ (b : Option (BayState D)). IsWrittenAt state b) (sym (none new longer number is)) tt

      ok_by : (r : Result Unit Unwritten)
          → OnOk r ((number : ℕ) → number ≤ 16 → IsWrittenAt state (bay_at new.bays number))
          → OnOk r ((number : ℕ) → IsWrittenAt state (bay_at new.bays number))
      ok_by (Ok done) holds = λ number. written_by holds number (nat_le number 16) refl
      ok_by (Err reason) holds = tt

      err_by : (r : Result Unit Unwritten)
          → OnErr r ((number : ℕ) × (number ≤ 16) × HasFailedAt state (bay_at new.bays number))
          → OnErr r ((number : ℕ) × HasFailedAt state (bay_at new.bays number))
      err_by (Ok done) holds = tt
      err_by (Err reason) holds = (holds.0, holds.2)
