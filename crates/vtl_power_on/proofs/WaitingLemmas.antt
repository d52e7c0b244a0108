-- What a library holds before its drives are all on: a cartridge is put into its home, and a drive is switched on.
use Rattle.std.proofs.Common.{◌≡◌, ◌≢◌, ℕ, zero, suc, ◌-◌, ◌≤◌, ◌<◌, nat_le, not, Bool, true, false, List, length, set, get_or, replicate, Option, None, Some, is_some, Ok, Err, refl, sym, ap, ◌∙◌, arith, cond, subst}
use Rattle.std.proofs.lemmas.Bool.Decides.{nat_tests}
use Rattle.std.proofs.lemmas.List.{get_or_default, get_or-set_same, get_or-set_other, length-set}
use Rattle.vtl_base.specs.declared.faults.NoMemory.{NoMemory}
use Rattle.tape_disk.specs.Disk.{DiskState}
use Rattle.tape_buffer.specs.Moves.{buffer_below}
use Rattle.tape_buffer.specs.State.{BufferState, state_of}
use Rattle.aptpl_store.specs.Kept.{store_kept}
use Rattle.aptpl_store.specs.State.{OpenStore}
use Rattle.element_slots.specs.declared.error.SlotError.{SlotError}
use Rattle.element_slots.specs.declared.error.SlotError.TheVariants as Errors
use Rattle.element_slots.specs.Slots.{Puts, held_at, is_slot, refusal_of_placing}
use Rattle.pr_core.specs.declared.states.PrState.{PrState}
use Rattle.drive_commands.specs.Media.{SwitchesOn}
use Rattle.drive_commands.specs.State.{left_of}
use Rattle.bay_moves.specs.Elements.{BayState, Becomes, HeldState, bay_at}
use Rattle.vtl_power_on.specs.Starting.{StaysOff}
use Rattle.vtl_power_on.specs.Inner.Waiting.{PutsHome, SwitchesOnAt}
use Rattle.vtl_power_on.specs.Unfinished.{IsBare, StartingState, home_at, waits_at}

-- the number of a drive is no slot's address
pub no_slot : (number : ℕ) → number ≤ 16 → is_slot number ≡ false
no_slot number most = grind (arith, nat_tests)

pub slot_address : (address : ℕ) → 1001 ≤ address → address - 1001 < 256 → is_slot address ≡ true
slot_address address from within = grind (arith, nat_tests)

-- what the slots refuse
free_slot : {C : Type 0} (slot : Bool) (found : Option C) (bad : SlotError)
    → cond (not slot) (Some bad) (cond (is_some found) (Some Errors.Full) None) ≡ None
    → slot ≡ true → found ≡ None
free_slot true None bad is on = refl
free_slot true (Some cartridge) bad is on = absurd (cc)
free_slot false found bad is on = absurd (cc)

full_slot : (slot full : Bool) (error : SlotError)
    → cond (not slot) (Some Errors.BadAddress) (cond full (Some Errors.Full) None) ≡ Some error
    → slot ≡ true → full ≡ true
full_slot true true error is on = refl
full_slot true false error is on = absurd (cc)
full_slot false full error is on = absurd (cc)

-- what waits for drives
module _ {C : Type 0} where
  waits_in : (waiting : List (Option C)) (number : ℕ) → 1 ≤ number
      → waits_at waiting number ≡ get_or waiting (number - 1) None
  waits_in waiting number least =
      let is : nat_le 1 number ≡ true = grind (arith, nat_tests) in
      ap (λ (b : Bool). cond b (get_or waiting (number - 1) None) None) is

  -- what was lent of the row waits for the drive of this number
  pub found_waiting : (waiting : List (Option C)) (number place : ℕ) (lent : Option C) → 1 ≤ number → number ≤ 16
      → length waiting ≡ 16 → place ≡ number - 1 → lent ≡ get_or waiting place lent → waits_at waiting number ≡ lent
  found_waiting waiting number place lent least most long is value =
      let within : place < length waiting = omega (arith, least, most, long, is) in
      waits_in waiting number least
      ∙ ap (λ (i : ℕ). get_or waiting i None) (sym is)
      ∙ get_or_default waiting place None lent within
      ∙ sym value

  -- once another waits there, it does, and for other drives what did
  waits_here : (waiting : List (Option C)) (number place : ℕ) (new : Option C) → 1 ≤ number → number ≤ 16
      → length waiting ≡ 16 → place ≡ number - 1 → waits_at (set waiting place new) number ≡ new
  waits_here waiting number place new least most long is =
      waits_in (set waiting place new) number least
      ∙ ap (λ (i : ℕ). get_or (set waiting place new) i None) (sym is)
      ∙ get_or-set_same waiting place new None (omega (arith, least, most, long, is))

  waits_elsewhere : (waiting : List (Option C)) (number place : ℕ) (new : Option C) → 1 ≤ number
      → place ≡ number - 1 → (other : ℕ) → other ≢ number
      → waits_at (set waiting place new) other ≡ waits_at waiting other
  waits_elsewhere waiting number place new least at other differs = by (nat_le 1 other) refl
    where
      by : (b : Bool) → nat_le 1 other ≡ b → waits_at (set waiting place new) other ≡ waits_at waiting other
      by true is =
          let from : 1 ≤ other = grind (arith, nat_tests) in
          let apart : other - 1 ≢ place = λ same. differs (omega (arith, same, from, least, at)) in
          waits_in (set waiting place new) other from
          ∙ get_or-set_other waiting place (other - 1) new None apart
          ∙ sym (waits_in waiting other from)
      by false is =
          ap (λ (b : Bool). cond b (get_or (set waiting place new) (other - 1) None) None) is
          ∙ sym (ap (λ (b : Bool). cond b (get_or waiting (other - 1) None) None) is)

  none_in : (count place : ℕ) → get_or (replicate {A = Option C} count None) place None ≡ None
  none_in zero place = refl
  none_in (suc count) zero = refl
  none_in (suc count) (suc place) = none_in count place

  no_one_waits : (count number : ℕ) → waits_at (replicate {A = Option C} count None) number ≡ None
  no_one_waits count number = by (nat_le 1 number) (none_in count (number - 1))
    where
      by : (b : Bool) {found : Option C} → found ≡ None → cond b found None ≡ None
      by true none = none
      by false none = refl

  none_lent : (lent : Option C) → is_some lent ≡ false → lent ≡ None
  none_lent None none = refl
  none_lent (Some cartridge) none = absurd (cc)

module _ {D : Type 0} where
  pub home_in_slot : (starting : StartingState D) (address : ℕ) → is_slot address ≡ true
      → home_at starting address ≡ held_at starting.held.slots address
  home_in_slot starting address on =
      ap (λ (b : Bool). cond b (held_at starting.held.slots address) (waits_at starting.waiting address)) on

  pub home_waits : (starting : StartingState D) (address : ℕ) → is_slot address ≡ false
      → home_at starting address ≡ waits_at starting.waiting address
  home_waits starting address off =
      ap (λ (b : Bool). cond b (held_at starting.held.slots address) (waits_at starting.waiting address)) off

  -- where the slots hold the same at an address, and the same waits for the drive there, the same is home
  same_home : (old new : StartingState D) (address : ℕ)
      → held_at new.held.slots address ≡ held_at old.held.slots address
      → waits_at new.waiting address ≡ waits_at old.waiting address → home_at new address ≡ home_at old address
  same_home old new address held waits = by (is_slot address)
    where
      by : (b : Bool) → cond b (held_at new.held.slots address) (waits_at new.waiting address)
          ≡ cond b (held_at old.held.slots address) (waits_at old.waiting address)
      by true = held
      by false = waits

  pub bare : (held : HeldState D) (count : ℕ) (waiting : List (Option (BufferState D)))
      → waiting ≡ replicate count None → ((address : ℕ) → held_at held.slots address ≡ None)
      → ((number : ℕ) → bay_at held.bays number ≡ None) → IsBare (record { held = held; waiting = waiting })
  bare held count waiting is slots bays = record {
    homes = λ address. by address (is_slot address);
    bays = bays;
  }
    where
      by : (address : ℕ) (b : Bool) → cond b (held_at held.slots address) (waits_at waiting address) ≡ None
      by address true = slots address
      by address false =
          ap (λ (xs : List (Option (BufferState D))). waits_at xs address) is ∙ no_one_waits count address

  -- a cartridge was put into a slot
  pub puts_slot : (held : HeldState D) (waiting : List (Option (BufferState D))) (put : HeldState D) (address : ℕ)
      (cartridge : BufferState D) (old : StartingState D) → record { held = held; waiting = waiting } ≡ old
      → is_slot address ≡ true → refusal_of_placing held.slots address ≡ None
      → Puts address (Some cartridge) held.slots put.slots → put.bays ≡ held.bays
      → PutsHome address cartridge old (record { held = put; waiting = waiting })
  puts_slot held waiting put address cartridge old is on passed puts bays =
      let was : StartingState D = record { held = held; waiting = waiting } in
      let now : StartingState D = record { held = put; waiting = waiting } in
      subst (λ (s : StartingState D). PutsHome address cartridge s now) is (record {
        free =
            home_in_slot was address on
            ∙ free_slot (is_slot address) (held_at held.slots address) Errors.BadAddress passed on;
        here = home_in_slot now address on ∙ puts.here;
        elsewhere = λ other differs. same_home was now other (puts.elsewhere other differs) refl;
        bays = bays;
      })

  pub full_in_slot : (held : HeldState D) (waiting : List (Option (BufferState D))) (address : ℕ) (error : SlotError)
      (old : StartingState D) → record { held = held; waiting = waiting } ≡ old → is_slot address ≡ true
      → refusal_of_placing held.slots address ≡ Some error → is_some (home_at old address) ≡ true
  full_in_slot held waiting address error old is on refused =
      subst (λ (s : StartingState D). is_some (home_at s address) ≡ true) is
      (ap (λ (found : Option (BufferState D)). is_some found)
      (home_in_slot (record { held = held; waiting = waiting }) address on)
      ∙ full_slot (is_slot address) (is_some (held_at held.slots address)) error refused on)

  -- a cartridge was put beside a drive
  pub puts_beside : (held : HeldState D) (waiting : List (Option (BufferState D))) (number place : ℕ)
      (lent : Option (BufferState D)) (cartridge : BufferState D) (old : StartingState D)
      → record { held = held; waiting = waiting } ≡ old → 1 ≤ number → number ≤ 16 → length waiting ≡ 16
      → place ≡ number - 1 → lent ≡ get_or waiting place lent → is_some lent ≡ false
      → PutsHome number cartridge old (record { held = held; waiting = set waiting place (Some cartridge) })
  puts_beside held waiting number place lent cartridge old is least most long at value none =
      let was : StartingState D = record { held = held; waiting = waiting } in
      let now : StartingState D = record { held = held; waiting = set waiting place (Some cartridge) } in
      let off = no_slot number most in
      subst (λ (s : StartingState D). PutsHome number cartridge s now) is (record {
        free =
            home_waits was number off
            ∙ found_waiting waiting number place lent least most long at value
            ∙ none_lent lent none;
        here = home_waits now number off ∙ waits_here waiting number place (Some cartridge) least most long at;
        elsewhere = λ other differs.
            same_home was now other refl
            (waits_elsewhere waiting number place (Some cartridge) least at other differs);
        bays = refl;
      })

  pub full_beside : (held : HeldState D) (waiting : List (Option (BufferState D))) (number place : ℕ)
      (lent : Option (BufferState D)) (old : StartingState D) → record { held = held; waiting = waiting } ≡ old
      → 1 ≤ number → number ≤ 16 → length waiting ≡ 16 → place ≡ number - 1 → lent ≡ get_or waiting place lent
      → is_some lent ≡ true → is_some (home_at old number) ≡ true
  full_beside held waiting number place lent old is least most long at value some =
      subst (λ (s : StartingState D). is_some (home_at s number) ≡ true) is
      (ap (λ (found : Option (BufferState D)). is_some found)
      (home_waits (record { held = held; waiting = waiting }) number (no_slot number most)
      ∙ found_waiting waiting number place lent least most long at value) ∙ some)

  -- a drive was switched on
  pub switches : (state : D → DiskState) (held : HeldState D) (waiting : List (Option (BufferState D)))
      (number place : ℕ) (lent taken new : Option (BufferState D)) (store : OpenStore D) (left : PrState)
      (bay : BayState D) (on : HeldState D) (old : StartingState D) → record { held = held; waiting = waiting } ≡ old
      → 1 ≤ number → number ≤ 16 → length waiting ≡ 16 → place ≡ number - 1 → lent ≡ get_or waiting place lent
      → taken ≡ lent → new ≡ None → left ≡ left_of (store_kept store).saved
      → SwitchesOn (state_of state) (buffer_below state) taken left store (Ok bay)
      → (bay_at held.bays number ≡ None) × Becomes number (Some bay) held.bays on.bays × (on.slots ≡ held.slots)
      → SwitchesOnAt state number store old (record { held = on; waiting = set waiting place new })
  switches state held waiting number place lent taken new store left bay on old is least most long at value takes leaves
      leave switched installed =
      let now : StartingState D = record { held = on; waiting = set waiting place new } in
      let Switches : Option (BufferState D) → PrState → Type 0 = λ found kept.
      SwitchesOn (state_of state) (buffer_below state) found kept store (Ok bay) in
      let waited : taken ≡ waits_at waiting number =
      takes ∙ sym (found_waiting waiting number place lent least most long at value) in
      subst (λ (s : StartingState D). SwitchesOnAt state number store s now) is (record {
        no_slot = no_slot number most;
        free = installed.0;
        bay = bay;
        here = installed.1;
        on =
            subst (λ (found : Option (BufferState D)). Switches found (left_of (store_kept store).saved)) waited
            (subst (λ (kept : PrState). Switches taken kept) leave switched);
        slots = installed.2;
        taken = waits_here waiting number place new least most long at ∙ leaves;
        elsewhere = waits_elsewhere waiting number place new least at;
      })

  -- a drive was not switched on, since memory ran out
  pub stays_off : (state : D → DiskState) (held : HeldState D) (waiting : List (Option (BufferState D)))
      (number place : ℕ) (lent taken new back : Option (BufferState D)) (store kept : OpenStore D) (left : PrState)
      (reason : NoMemory) (old : StartingState D) → record { held = held; waiting = waiting } ≡ old
      → 1 ≤ number → number ≤ 16 → length waiting ≡ 16 → place ≡ number - 1 → lent ≡ get_or waiting place lent
      → taken ≡ lent → left ≡ left_of (store_kept store).saved
      → SwitchesOn (state_of state) (buffer_below state) taken left store (Err (back, kept, reason))
      → StaysOff state number store old (record { held = held; waiting = set (set waiting place new) place back })
      × (Some kept ≡ Some store)
  stays_off state held waiting number place lent taken new back store kept left reason old is least most long at value
      takes leave refused =
      let now : StartingState D = record { held = held; waiting = set (set waiting place new) place back } in
      let same : kept ≡ store = keeper taken refused in
      let Refuses : Option (BufferState D) → PrState → Option (BufferState D) → OpenStore D → Type 0 =
      λ found left back kept.
      SwitchesOn (state_of state) (buffer_below state) found left store (Err (back, kept, reason)) in
      let waited : taken ≡ waits_at waiting number =
      takes ∙ sym (found_waiting waiting number place lent least most long at value) in
      let again : waits_at (set (set waiting place new) place back) number ≡ back =
      waits_here (set waiting place new) number place back least most (length-set waiting place new ∙ long) at in (
        subst (λ (s : StartingState D). StaysOff state number store s now) is (record {
          no_slot = no_slot number most;
          held = refl;
          reason = reason;
          off =
              subst (λ (k : OpenStore D). Refuses (waits_at waiting number) (left_of (store_kept store).saved)
              (waits_at (set (set waiting place new) place back) number) k) same
              (subst (λ (b : Option (BufferState D)). Refuses (waits_at waiting number)
              (left_of (store_kept store).saved) b kept) (sym again)
              (subst (λ (found : Option (BufferState D)). Refuses found (left_of (store_kept store).saved) back kept)
              waited (subst (λ (l : PrState). Refuses taken l back kept) leave refused)));
          elsewhere = λ other differs.
              waits_elsewhere (set waiting place new) number place back least at other differs
              ∙ waits_elsewhere waiting number place new least at other differs;
        }),
        ap (λ (k : OpenStore D). Some k) same,
      )
    where
      keeper : (found : Option (BufferState D))
          → SwitchesOn (state_of state) (buffer_below state) found left store (Err (back, kept, reason))
          → kept ≡ store
      keeper None none = absurd none
      keeper (Some given) refused = refused.3
