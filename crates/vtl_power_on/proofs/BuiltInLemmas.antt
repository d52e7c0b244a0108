-- The built-in library.
use Rattle.std.proofs.Common.{◌≡◌, ◌≢◌, ℕ, ◌-◌, Bool, true, false, List, get_or, Option, None, Ok, refl, sym, ap, ◌∙◌, cond, subst}
use Rattle.tape_disk.specs.Disk.{DiskState}
use Rattle.tape_buffer.specs.Moves.{buffer_below}
use Rattle.tape_buffer.specs.State.{BufferState, state_of}
use Rattle.aptpl_store.specs.Kept.{store_kept}
use Rattle.aptpl_store.specs.State.{OpenStore}
use Rattle.element_slots.specs.Slots.{held_at, is_slot}
use Rattle.drive_commands.specs.Media.{SwitchesOn}
use Rattle.drive_commands.specs.State.{left_of}
use Rattle.bay_moves.specs.Elements.{BayState, bay_at}
use Rattle.vtl_power_on.specs.Inner.Waiting.{PutsHome, SwitchesOnAt}
use Rattle.vtl_power_on.specs.Sides.{IsNewCartridge, IsNewStore}
use Rattle.vtl_power_on.specs.Starting.{IsBuiltIn}
use Rattle.vtl_power_on.specs.Unfinished.{IsBare, StartingState}
use Rattle.vtl_power_on.proofs.WaitingLemmas.{home_in_slot, home_waits}

-- the built-in library: a cartridge was put beside drive 1, and it was switched on
pub built_in_is : {D : Type 0} (state : D → DiskState) (barcode capacities : List ℕ) (cartridge : BufferState D)
    (store : OpenStore D) (start put on : StartingState D) → IsBare start → PutsHome 1 cartridge start put
    → SwitchesOnAt state 1 store put on → IsNewStore 1 store → IsNewCartridge barcode capacities cartridge
    → IsBuiltIn state barcode capacities on.held
built_in_is {D = D} state barcode capacities cartridge store start put on bare puts switched new made = record {
  slots = λ address.
      ap (λ (slots : List (Option (BufferState D))). held_at slots address) switched.slots
      ∙ by address (is_slot address) refl;
  others = λ number differs.
      switched.here.elsewhere number differs
      ∙ ap (λ (bays : List (Option (BayState D))). bay_at bays number) puts.bays
      ∙ bare.bays number;
  bay = switched.bay;
  here = switched.here.here;
  store = store;
  is_new = new;
  cartridge = cartridge;
  is_empty = made;
  on =
      subst (λ (found : Option (BufferState D)). SwitchesOn (state_of state) (buffer_below state) found
      (left_of (store_kept store).saved) store (Ok switched.bay))
      (sym (home_waits put 1 refl) ∙ puts.here) switched.on;
}
  where
    by : (address : ℕ) (b : Bool) → is_slot address ≡ b → held_at put.held.slots address ≡ None
    by address true is =
        let apart : address ≢ 1 = λ same.
        let clash : true ≡ is_slot 1 = sym is ∙ ap (λ (a : ℕ). is_slot a) same in absurd (cc) in
        sym (home_in_slot put address is) ∙ puts.elsewhere address apart ∙ bare.homes address
    by address false is =
        ap (λ (b : Bool). cond b (get_or put.held.slots (address - 1001) None) None) is
