-- The cartridge at an address of a library, of which one place has changed; and which replies to a move are no refusal.
use Rattle.std.proofs.Common.{◌≡◌, ◌≢◌, ◌⊎◌, inl, inr, ℕ, ◌==◌, not, Bool, true, false, List, [], Option, None, Some, is_some, refl, sym, ap, ◌∙◌, cond, arith}
use Rattle.std.proofs.lemmas.Bool.Decides.{nat_tests}
use Rattle.scsi_sense.specs.declared.replies.Reply.{Reply}
use Rattle.scsi_sense.specs.declared.replies.Status.TheVariants.{Good, Check, Conflict}
use Rattle.scsi_sense.specs.declared.sense_data.Sense.{Sense}
use Rattle.scsi_sense.specs.Replies.{check_with, conflict, good_with}
use Rattle.volume_core.specs.declared.media.MediumError.{MediumError}
use Rattle.volume_core.specs.declared.media.MediumError.TheVariants as Errors
use Rattle.drive_commands.specs.Faults.{reply_of}
use Rattle.drive_commands.specs.Load.{wake_answer}
use Rattle.drive_commands.specs.State.{medium_in}
use Rattle.tape_buffer.specs.State.{BufferState}
use Rattle.element_slots.specs.Slots.{held_at, is_slot}
use Rattle.bay_moves.specs.Elements.{BayState, HeldState, bay_at, cartridge_at, cartridge_in}
use Rattle.bay_moves.specs.Moves.{BayIs, KeepsBays, SlotHolds}

-- two numbers are the same or not
pub same_or_not : (a b : ℕ) → (a ≡ b) ⊎ (a ≢ b)
same_or_not a b = by (a == b) refl
  where
    by : (test : Bool) → (a == b) ≡ test → (a ≡ b) ⊎ (a ≢ b)
    by true is = inl (grind (arith, nat_tests))
    by false is = inr (λ same. let no : (a == b) ≡ true = grind (arith, nat_tests) in absurd (cc))

-- a value that is there
pub some_of : {X : Type 0} (found : Option X) → is_some found ≡ true → (x : X) × (found ≡ Some x)
some_of (Some x) there = (x, refl)
some_of None there = absurd (cc)

pub none_of : {X : Type 0} (found : Option X) → is_some found ≡ false → found ≡ None
none_of (Some x) there = absurd (cc)
none_of None there = refl

pub the_same : {X : Type 0} (x y : X) → Some x ≡ Some y → x ≡ y
the_same {X = X} x y is = ap (λ (found : Option X). some_or found) is
  where
    some_or : Option X → X
    some_or None = x
    some_or (Some other) = other

-- no refusal is GOOD
pub check_is_not_good : (sense : Sense) (bytes : List ℕ) → check_with sense bytes ≢ good_with []
check_is_not_good sense bytes is = let status : Check ≡ Good = ap (λ (r : Reply). r.status) is in absurd (cc)

pub conflict_is_not_good : conflict ≢ good_with []
conflict_is_not_good is = let status : Conflict ≡ Good = ap (λ (r : Reply). r.status) is in absurd (cc)

pub wake_is_not_good : (error : MediumError) → reply_of (wake_answer error) ≢ good_with []
wake_is_not_good Errors.NoMemory = check_is_not_good _ _
wake_is_not_good Errors.Device = check_is_not_good _ _
wake_is_not_good Errors.Unreadable = check_is_not_good _ _
wake_is_not_good Errors.SideFull = check_is_not_good _ _
wake_is_not_good Errors.Failed = check_is_not_good _ _
wake_is_not_good (Errors.Refused cause) = check_is_not_good _ _

-- four tests, one after another
pub all_passed : (a b c d : Bool) (w x y z : Reply)
    → cond (not a) (Some w) (cond b (Some x) (cond (not c) (Some y) (cond d (Some z) None))) ≡ None
    → (c ≡ true) × (d ≡ false)
all_passed true false true false w x y z is = (refl, refl)
all_passed true false true true w x y z is = absurd (cc)
all_passed true false false d w x y z is = absurd (cc)
all_passed true true c d w x y z is = absurd (cc)
all_passed false b c d w x y z is = absurd (cc)

pub one_failed : (a b c d : Bool) (w x y z good r : Reply) → w ≢ good → x ≢ good → y ≢ good → z ≢ good
    → cond (not a) (Some w) (cond b (Some x) (cond (not c) (Some y) (cond d (Some z) None))) ≡ Some r → r ≢ good
one_failed true false true false w x y z good r dw dx dy dz is = absurd (cc)
one_failed true false true true w x y z good r dw dx dy dz is = λ same. dz (the_same z r is ∙ same)
one_failed true false false d w x y z good r dw dx dy dz is = λ same. dy (the_same y r is ∙ same)
one_failed true true c d w x y z good r dw dx dy dz is = λ same. dx (the_same x r is ∙ same)
one_failed false b c d w x y z good r dw dx dy dz is = λ same. dw (the_same w r is ∙ same)

module _ {D : Type 0} where
  -- the cartridge at an address that changed, and at any other
  pub slot_here : (address : ℕ) (cartridge : Option (BufferState D)) (old new : HeldState D) → is_slot address ≡ true
      → SlotHolds address cartridge old new → cartridge_at new address ≡ cartridge
  slot_here address cartridge old new slot is =
      ap (λ (b : Bool). cond b (held_at new.slots address) (cartridge_in (bay_at new.bays address))) slot
      ∙ is.slots.here

  pub slot_elsewhere : (address : ℕ) (cartridge : Option (BufferState D)) (old new : HeldState D)
      → SlotHolds address cartridge old new → (other : ℕ) → other ≢ address
      → cartridge_at new other ≡ cartridge_at old other
  slot_elsewhere address cartridge old new is other apart =
      ap (λ (held : Option (BufferState D)). cond (is_slot other) held (cartridge_in (bay_at new.bays other)))
      (is.slots.elsewhere other apart)
      ∙ ap (λ (bays : List (Option (BayState D))). cond (is_slot other) (held_at old.slots other)
      (cartridge_in (bay_at bays other))) is.bays

  pub bay_here : (address : ℕ) (bay : BayState D) (old new : HeldState D) → is_slot address ≡ false
      → BayIs address bay old new → cartridge_at new address ≡ medium_in bay.bay
  bay_here address bay old new slot is =
      ap (λ (b : Bool). cond b (held_at new.slots address) (cartridge_in (bay_at new.bays address))) slot
      ∙ ap cartridge_in is.bays.here

  pub bay_elsewhere : (address : ℕ) (bay : BayState D) (old new : HeldState D) → BayIs address bay old new
      → (other : ℕ) → other ≢ address → cartridge_at new other ≡ cartridge_at old other
  bay_elsewhere address bay old new is other apart =
      ap (λ (b : Option (BayState D)). cond (is_slot other) (held_at new.slots other) (cartridge_in b))
      (is.bays.elsewhere other apart)
      ∙ ap (λ (slots : List (Option (BufferState D))). cond (is_slot other) (held_at slots other)
      (cartridge_in (bay_at old.bays other))) is.slots

  pub in_bay : (address : ℕ) (bay : BayState D) (held : HeldState D) → is_slot address ≡ false
      → bay_at held.bays address ≡ Some bay → cartridge_at held address ≡ medium_in bay.bay
  in_bay address bay held slot is =
      ap (λ (b : Bool). cond b (held_at held.slots address) (cartridge_in (bay_at held.bays address))) slot
      ∙ ap cartridge_in is

  pub in_slot : (address : ℕ) (held : HeldState D) → is_slot address ≡ true
      → cartridge_at held address ≡ held_at held.slots address
  in_slot address held slot =
      ap (λ (b : Bool). cond b (held_at held.slots address) (cartridge_in (bay_at held.bays address))) slot

  -- the same drives are configured where only this one has changed
  pub bay_stays : (address : ℕ) (bay left : BayState D) (old new : HeldState D) → bay_at old.bays address ≡ Some bay
      → BayIs address left old new → KeepsBays old new
  bay_stays address bay left old new at is number = by (same_or_not number address)
    where
      by : (number ≡ address) ⊎ (number ≢ address)
          → is_some (bay_at new.bays number) ≡ is_some (bay_at old.bays number)
      by (inl here) =
          ap (λ (n : ℕ). is_some (bay_at new.bays n)) here
          ∙ ap (λ (b : Option (BayState D)). is_some b) is.bays.here
          ∙ ap (λ (b : Option (BayState D)). is_some b) (sym at)
          ∙ ap (λ (n : ℕ). is_some (bay_at old.bays n)) (sym here)
      by (inr apart) = ap (λ (b : Option (BayState D)). is_some b) (is.bays.elsewhere number apart)

  pub slot_stays : (address : ℕ) (cartridge : Option (BufferState D)) (old new : HeldState D)
      → SlotHolds address cartridge old new → KeepsBays old new
  slot_stays address cartridge old new is number =
      ap (λ (bays : List (Option (BayState D))). is_some (bay_at bays number)) is.bays
