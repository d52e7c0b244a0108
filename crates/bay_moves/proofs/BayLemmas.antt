-- The drives of a library, as a list.
use Rattle.std.proofs.Common.{◌≡◌, ◌≢◌, ◌⊎◌, ◌&&◌, inl, inr, ℕ, ◌-◌, ◌≤◌, ◌<◌, nat_le, Bool, true, false, Result, Ok, Err, List, length, set, get_or, Option, None, Some, is_some, OnOk, IfErr, replicate, nat_lt, refl, sym, ap, ◌∙◌, arith, cond, subst}
use Rattle.std.proofs.lemmas.Bool.Decides.{nat_tests}
use Rattle.std.proofs.lemmas.List.{get_or-replicate, get_or_default, get_or-set_same, get_or-set_other, length-replicate}
use Rattle.std.proofs.Math.ListN.{get_or-eq_default}
use Rattle.tape_buffer.specs.State.{BufferState}
use Rattle.element_slots.specs.Slots.{is_slot}
use Rattle.bay_moves.specs.Elements.{BayState, Becomes, HeldState, bay_at}
use Rattle.bay_moves.specs.Moves.{BayIs}

module _ {D : Type 0} where
  -- the place of a drive
  pub at_place : (bays : List (Option (BayState D))) (number : ℕ) → 1 ≤ number
      → bay_at bays number ≡ get_or bays (number - 1) None
  at_place bays number least =
      let is : nat_le 1 number ≡ true = grind (arith, nat_tests) in
      ap (λ (b : Bool). cond b (get_or bays (number - 1) None) None) is

  -- no drive has these numbers
  pub at_no_place : (bays : List (Option (BayState D))) (number : ℕ) → length bays ≡ 16
      → (number ≡ 0) ⊎ (16 < number) → bay_at bays number ≡ None
  at_no_place bays number long (inl zero) =
      let is : nat_le 1 number ≡ false = grind (arith, nat_tests) in
      ap (λ (b : Bool). cond b (get_or bays (number - 1) None) None) is
  at_no_place bays number long (inr beyond) =
      at_place bays number (omega (arith, beyond))
      ∙ get_or-eq_default bays None (omega (arith, beyond, long))

  -- a drive that is set in its place is there, and the others stay
  pub set_becomes : (bays : List (Option (BayState D))) (number : ℕ) (bay : Option (BayState D)) → 1 ≤ number
      → number ≤ 16 → length bays ≡ 16 → Becomes number bay bays (set bays (number - 1) bay)
  set_becomes bays number bay least most long = record {
    here = at_place (set bays (number - 1) bay) number least
        ∙ get_or-set_same bays (number - 1) bay None (omega (arith, least, most, long));
    elsewhere = λ other differs. by other differs (nat_le 1 other) refl;
  }
    where
      by : (other : ℕ) → other ≢ number → (b : Bool) → nat_le 1 other ≡ b
          → bay_at (set bays (number - 1) bay) other ≡ bay_at bays other
      by other differs true is =
          let from : 1 ≤ other = grind (arith, nat_tests) in
          let apart : other - 1 ≢ number - 1 = λ same. differs (omega (arith, same, from, least)) in
          at_place (set bays (number - 1) bay) other from
          ∙ get_or-set_other bays (number - 1) (other - 1) bay None apart
          ∙ sym (at_place bays other from)
      by other differs false is =
          ap (λ (b : Bool). cond b (get_or (set bays (number - 1) bay) (other - 1) None) None) is
          ∙ sym (ap (λ (b : Bool). cond b (get_or bays (other - 1) None) None) is)

  -- the drive that was lent is the one of this number
  pub found_at : (bays : List (Option (BayState D))) (number place : ℕ) (lent : Option (BayState D)) → 1 ≤ number
      → number ≤ 16 → length bays ≡ 16 → place ≡ number - 1 → lent ≡ get_or bays place lent → bay_at bays number ≡ lent
  found_at bays number place lent least most long is value =
      let within : place < length bays = omega (arith, least, most, long, is) in
      at_place bays number least
      ∙ ap (λ (i : ℕ). get_or bays i None) (sym is)
      ∙ get_or_default bays place None lent within
      ∙ sym value

  -- with another drive in its place, the list has that one there
  pub changed_at : (bays : List (Option (BayState D))) (number place : ℕ) (bay : Option (BayState D)) → 1 ≤ number
      → number ≤ 16 → length bays ≡ 16 → place ≡ number - 1 → Becomes number bay bays (set bays place bay)
  changed_at bays number place bay least most long is =
      subst (λ (i : ℕ). Becomes number bay bays (set bays i bay)) (sym is) (set_becomes bays number bay least most long)

  -- the same for the whole library
  pub bay_is : (slots : List (Option (BufferState D))) (bays : List (Option (BayState D))) (number place : ℕ)
      (bay : BayState D) (held : HeldState D) → record { slots = slots; bays = bays } ≡ held → 1 ≤ number
      → number ≤ 16 → length bays ≡ 16 → place ≡ number - 1
      → BayIs number bay held (record { slots = slots; bays = set bays place (Some bay) })
  bay_is slots bays number place bay held is least most long at =
      subst (λ (h : HeldState D). BayIs number bay h (record { slots = slots; bays = set bays place (Some bay) })) is
      (record { bays = changed_at bays number place (Some bay) least most long at; slots = refl })

module _ {D : Type 0} where
  -- no drive has the address of a slot
  pub no_drive : (bays : List (Option (BayState D))) (address : ℕ) → length bays ≡ 16 → is_slot address ≡ true
      → bay_at bays address ≡ None
  no_drive bays address long slot =
      let from : 1001 ≤ address = grind (arith, nat_tests) in
      at_no_place bays address long (inr (omega (arith, from)))

-- the number of a drive is no address of a slot
pub no_slot : (number : ℕ) → number ≤ 16 → is_slot number ≡ false
no_slot number most =
    let before : nat_le 1001 number ≡ false = grind (arith, nat_tests) in
    ap (λ (b : Bool). b && nat_lt (number - 1001) 256) before

-- the result of a call, in other terms
pub on_ok : {T E : Type 0} {A B : Type 0} (result : Result T E) → (A → B) → OnOk result A → OnOk result B
on_ok (Ok done) says holds = says holds
on_ok (Err error) says holds = tt

pub if_err : {T E : Type 0} {P Q : E → Type 0} (result : Result T E) → ((error : E) → P error → Q error)
    → IfErr result P → IfErr result Q
if_err (Ok done) says holds = tt
if_err (Err error) says holds = says error holds

pub with_slots : {D : Type 0} (slots others : List (Option (BufferState D))) (bays : List (Option (BayState D)))
    (held : HeldState D) → others ≡ slots → record { slots = slots; bays = bays } ≡ held
    → record { slots = others; bays = bays } ≡ held
with_slots {D = D} slots others bays held same is =
    let put : List (Option (BufferState D)) → HeldState D = λ xs. record { slots = xs; bays = bays } in
    ap put same ∙ is

pub nothing : {X : Type 0} (found : Option X) → is_some found ≡ false → found ≡ None
nothing (Some x) none = absurd (cc)
nothing None none = refl

-- an empty list has no drive
pub none_in : {X : Type 0} (count place : ℕ) → get_or (replicate {A = Option X} count None) place None ≡ None
none_in {X = X} count place = by (nat_lt place count) refl
  where
    by : (b : Bool) → nat_lt place count ≡ b → get_or (replicate {A = Option X} count None) place None ≡ None
    by true is = get_or-replicate count place None None (grind (arith, nat_tests))
    by false is =
        let beyond : count ≤ place = grind (arith, nat_tests) in
        let long : length (replicate {A = Option X} count None) ≡ count = length-replicate count None in
        get_or-eq_default (replicate {A = Option X} count None) None (omega (arith, beyond, long))

pub no_bay_in : {D : Type 0} (count number : ℕ)
    → bay_at (replicate {A = Option (BayState D)} count None) number ≡ None
no_bay_in {D = D} count number = by (nat_le 1 number) (none_in count (number - 1))
  where
    by : (b : Bool) {found : Option (BayState D)} → found ≡ None → cond b found None ≡ None
    by true none = none
    by false none = refl
