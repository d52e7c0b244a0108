-- The ends of a move on lent slots and drives, and the drives after those that were lent were put back.
use Rattle.std.proofs.Common.{◌≡◌, ◌≢◌, ◌⊎◌, inl, inr, ℕ, ◌-◌, ◌≤◌, ◌<◌, nat_le, ◌&&◌, ◌||◌, not, Bool, true, false, List, length, set, get_or, Option, None, Some, is_some, refl, sym, ap, ◌∙◌, arith, cond, subst}
use Rattle.std.proofs.lemmas.Bool.Decides.{nat_tests}
use Rattle.std.proofs.lemmas.List.{length-set, set-get_or}
use Rattle.tape_buffer.specs.State.{BufferState}
use Rattle.scsi_sense.specs.declared.replies.Reply.{Reply}
use Rattle.element_slots.specs.Slots.{held_at, is_slot}
use Rattle.bay_moves.specs.declared.lent.End.{End}
use Rattle.bay_moves.specs.Elements.{BayState, Becomes, HeldState, bay_at, cartridge_at, cartridge_in, is_element, is_reserved_at}
use Rattle.bay_moves.specs.Inner.Carried.{drive_end, refusal_between, slot_end}
use Rattle.bay_moves.specs.Lent.{AreNamed}
use Rattle.bay_moves.specs.Moves.{refusal_of_move}
use Rattle.bay_moves.proofs.BayLemmas.{at_no_place, at_place, no_drive, set_becomes}
use Rattle.bay_moves.proofs.PlaceLemmas.{all_passed, same_or_not}

known_both : (k l : Bool) (w : Reply) (rest : Option Reply) → cond (not (k && l)) (Some w) rest ≡ None
    → (k ≡ true) × (l ≡ true)
known_both true true w rest is = (refl, refl)
known_both true false w rest is = absurd (cc)
known_both false l w rest is = absurd (cc)

-- a move that is not refused
all_known : (k l q c d : Bool) (w x y z : Reply)
    → cond (not (k && l)) (Some w) (cond q (Some x) (cond (not c) (Some y) (cond d (Some z) None))) ≡ None
    → (k ≡ true) × (l ≡ true) × (c ≡ true) × (d ≡ false)
all_known k l q c d w x y z is =
    let both = known_both k l w (cond q (Some x) (cond (not c) (Some y) (cond d (Some z) None))) is in
    let passed = all_passed (k && l) q c d w x y z is in
    (both.0, both.1, passed.0, passed.1)

pub none_refuses : (e f : End) → None ≡ refusal_between e f
    → (e.known ≡ true) × (f.known ≡ true) × (e.full ≡ true) × (f.full ≡ false)
none_refuses e f is =
    all_known e.known f.known (e.reserved || f.reserved) e.full f.full _ _ _ _ (sym is)

module _ {D : Type 0} where
  -- the end of a move at an address of a library
  abbrev pub end_at : HeldState D → ℕ → End
  end_at held address = record {
    known = is_element held address;
    reserved = is_reserved_at (bay_at held.bays address);
    full = is_some (cartridge_at held address);
  }

  pub refuses_as : (held : HeldState D) (from to : ℕ) (e f : End) (refusal : Option Reply) → e ≡ end_at held from
      → f ≡ end_at held to → refusal ≡ refusal_between e f → refusal_of_move held from to ≡ refusal
  refuses_as held from to e f refusal e_is f_is is =
      let same : refusal_between e f ≡ refusal_between (end_at held from) (end_at held to) =
      λ i. refusal_between (e_is i) (f_is i) in
      sym (is ∙ same)

  -- an end, by whether it is a slot's, what the slot holds, and the drive
  abbrev end_by : Bool → Option (BufferState D) → Option (BayState D) → End
  end_by s x b = record {
    known = s || is_some b;
    reserved = is_reserved_at b;
    full = is_some (cond s (cond s x None) (cartridge_in b));
  }

  abbrev slot_alone : Bool → Option (BufferState D) → End
  slot_alone s x = record { known = s; reserved = false; full = is_some (cond s x None) }

  slot_by : (s : Bool) (x : Option (BufferState D)) (b : Option (BayState D)) → b ≡ None
      → slot_alone s x ≡ end_by s x b
  slot_by true x b none = subst (λ (b : Option (BayState D)). slot_alone true x ≡ end_by true x b) (sym none) refl
  slot_by false x b none = subst (λ (b : Option (BayState D)). slot_alone false x ≡ end_by false x b) (sym none) refl

  pub slot_is : (slots : List (Option (BufferState D))) (bays : List (Option (BayState D))) (address : ℕ)
      → bay_at bays address ≡ None → slot_end slots address ≡ end_at (record { slots = slots; bays = bays }) address
  slot_is slots bays address none =
      slot_by (is_slot address) (get_or slots (address - 1001) None) (bay_at bays address) none

  pub off_slots : (bays : List (Option (BayState D))) (address : ℕ) (bay : BayState D) → length bays ≡ 16
      → bay_at bays address ≡ Some bay → is_slot address ≡ false
  off_slots bays address bay long at = by (is_slot address) refl
    where
      by : (b : Bool) → is_slot address ≡ b → is_slot address ≡ false
      by false is = is
      by true is = let clash : Some bay ≡ None = sym at ∙ no_drive bays address long is in absurd (cc)

  drive_by : (s : Bool) (x : Option (BufferState D)) (b : Option (BayState D)) (bay : BayState D) → s ≡ false
      → b ≡ Some bay
      → drive_end bay
      ≡ record { known = s || is_some b; reserved = is_reserved_at b; full = is_some (cond s x (cartridge_in b)) }
  drive_by true x b bay off at = absurd (cc)
  drive_by false x b bay off at =
      subst (λ (b : Option (BayState D)). drive_end bay
      ≡ record { known = is_some b; reserved = is_reserved_at b; full = is_some (cartridge_in b) }) (sym at) refl

  pub drive_is : (slots : List (Option (BufferState D))) (bays : List (Option (BayState D))) (address : ℕ)
      (bay : BayState D) → length bays ≡ 16 → bay_at bays address ≡ Some bay
      → drive_end bay ≡ end_at (record { slots = slots; bays = bays }) address
  drive_is slots bays address bay long at =
      drive_by (is_slot address) (held_at slots address) (bay_at bays address) bay
      (off_slots bays address bay long at) at

  -- a drive is found at numbers 1 to 16 alone
  in_reach : (bays : List (Option (BayState D))) (number : ℕ) (bay : BayState D) → length bays ≡ 16
      → bay_at bays number ≡ Some bay → (1 ≤ number) × (number ≤ 16)
  in_reach bays number bay long at = by (nat_le 1 number) (nat_le number 16) refl refl
    where
      gone : (number ≡ 0) ⊎ (16 < number) → ⊥
      gone out = let clash : Some bay ≡ None = sym at ∙ at_no_place bays number long out in absurd (cc)

      by : (b d : Bool) → nat_le 1 number ≡ b → nat_le number 16 ≡ d → (1 ≤ number) × (number ≤ 16)
      by true true least most = (grind (arith, nat_tests), grind (arith, nat_tests))
      by false d least most = absurd (gone (inl (grind (arith, nat_tests))))
      by true false least most = absurd (gone (inr (grind (arith, nat_tests))))

  -- a drive is put where one was found
  pub found_becomes : (bays : List (Option (BayState D))) (number : ℕ) (bay later : BayState D) → length bays ≡ 16
      → bay_at bays number ≡ Some bay → Becomes number (Some later) bays (set bays (number - 1) (Some later))
  found_becomes bays number bay later long at =
      let reach = in_reach bays number bay long at in
      set_becomes bays number (Some later) reach.0 reach.1 long

  -- a drive that is unchanged
  pub found_same : (bays : List (Option (BayState D))) (number : ℕ) (bay : BayState D) → length bays ≡ 16
      → bay_at bays number ≡ Some bay → set bays (number - 1) (Some bay) ≡ bays
  found_same bays number bay long at =
      let reach = in_reach bays number bay long at in
      let there : get_or bays (number - 1) None ≡ Some bay = sym (at_place bays number reach.0) ∙ at in
      ap (λ (found : Option (BayState D)). set bays (number - 1) found) (sym there)
      ∙ set-get_or bays (number - 1) None

  pub still_long : (bays : List (Option (BayState D))) (place : ℕ) (found : Option (BayState D)) → length bays ≡ 16
      → length (set bays place found) ≡ 16
  still_long bays place found long = length-set bays place found ∙ long

  pub apart : (from to : ℕ) (source : Option (BayState D)) (destination : BayState D)
      (bays : List (Option (BayState D))) → AreNamed from to source (Some destination) bays → from ≢ to
  apart from to source destination bays named same =
      let clash : Some destination ≡ None = named.once same in absurd (cc)

  pub none_at : (from to : ℕ) (bays : List (Option (BayState D))) → AreNamed from to None None bays
      → bay_at bays to ≡ None
  none_at from to bays named = by (same_or_not from to)
    where
      by : (from ≡ to) ⊎ (from ≢ to) → bay_at bays to ≡ None
      by (inl same) = subst (λ (n : ℕ). bay_at bays n ≡ None) same named.at_source
      by (inr differs) = named.at_destination differs
