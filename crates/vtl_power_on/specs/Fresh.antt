-- No drive of a library that was just switched on has accepted a change (own).
use Rattle.std.proofs.Common.{◌≡◌, ◌≢◌, ◌==◌, ℕ, ◌+◌, ◌-◌, nat_le, Bool, true, false, List, get_or, Option, None, Some, Result, Ok, Err, IfOk, refl, sym, ap, ◌∙◌, arith, cond, subst}
use Rattle.std.proofs.lemmas.Bool.Decides.{nat_tests}
use Rattle.std.proofs.lemmas.List.Elements.{All-from_get_or}
use Rattle.tape_disk.specs.Disk.{DiskState}
use Rattle.tape_buffer.specs.Moves.{buffer_below}
use Rattle.tape_buffer.specs.State.{BufferState, state_of}
use Rattle.aptpl_store.specs.State.{OpenStore}
use Rattle.pr_core.specs.declared.states.PrState.{PrState}
use Rattle.drive_commands.specs.Media.{SwitchesOn}
use Rattle.bay_moves.specs.Elements.{BayState, HeldState, bay_at}
use Rattle.library.specs.Counts.{AcceptedNone}
use Rattle.vtl_config.specs.declared.entries.CartridgeEntry.{CartridgeEntry}
use Rattle.vtl_config.specs.declared.entries.DriveEntry.{DriveEntry}
use Rattle.vtl_faults.specs.declared.faults.VtlFault.{VtlFault}
use Rattle.vtl_power_on.specs.Running.{HaveAcceptedNone}
use Rattle.vtl_power_on.specs.Starting.{IsBuiltIn, IsDriveOf, IsStart, IsStarted}

module _ {D : Type 0} where
  -- the drive in a place of a row (own)
  at_place : (bays : List (Option (BayState D))) (place : ℕ) → bay_at bays (place + 1) ≡ get_or bays place None
  at_place bays place =
      let is : nat_le 1 (place + 1) ≡ true = grind (arith, nat_tests) in
      let back : place + 1 - 1 ≡ place = omega arith in
      ap (λ (b : Bool). cond b (get_or bays (place + 1 - 1) None) None) is
      ∙ ap (λ (i : ℕ). get_or bays i None) back

  -- what holds of the drive of each number holds of all places (own)
  all_fresh : (held : HeldState D) → ((number : ℕ) → AcceptedNone (bay_at held.bays number)) → HaveAcceptedNone held
  all_fresh held each =
      All-from_get_or (λ (bay : Option (BayState D)). AcceptedNone bay) held.bays None
      (λ place within.
      subst (λ (bay : Option (BayState D)). AcceptedNone bay) (at_place held.bays place) (each (place + 1)))

  -- a drive that was just switched on has accepted nothing (own)
  fresh_on : (state : D → DiskState) (cartridge : Option (BufferState D)) (left : PrState) (store : OpenStore D)
      (bay : BayState D)
      → SwitchesOn (state_of state) (buffer_below state) cartridge left store (Ok bay) → bay.accepted ≡ 0
  fresh_on state None left store bay on = ap (λ (b : BayState D). b.accepted) on
  fresh_on state (Some cartridge) left store bay (woke, opened, inside, wakes, is, on) =
      ap (λ (b : BayState D). b.accepted) on

  -- so of a library that was started as its configuration says (own)
  pub started_fresh : (gives : CartridgeEntry → BufferState D → Type 0) (state : D → DiskState)
      (stores : DriveEntry → OpenStore D → Type 0) (entries : List CartridgeEntry) (drives : List DriveEntry)
      (held : HeldState D) → IsStarted gives state stores entries drives held → HaveAcceptedNone held
  started_fresh gives state stores entries drives held started =
      all_fresh held (λ number. by number (bay_at held.bays number) (started.bays number))
    where
      by : (number : ℕ) (found : Option (BayState D)) → IsDriveOf gives state stores entries drives number found
          → AcceptedNone found
      by number None none = refl
      by number (Some bay) on = fresh_on state on.3.cartridge _ on.3.store bay on.3.on

  -- and of the built-in one (own)
  pub built_in_fresh : (state : D → DiskState) (barcode capacities : List ℕ) (held : HeldState D)
      → IsBuiltIn state barcode capacities held → HaveAcceptedNone held
  built_in_fresh state barcode capacities held built =
      all_fresh held (λ number. by number (number == 1) refl)
    where
      by : (number : ℕ) (test : Bool) → (number == 1) ≡ test → AcceptedNone (bay_at held.bays number)
      by number true is =
          let same : number ≡ 1 = grind (arith, nat_tests) in
          subst (λ (bay : Option (BayState D)). AcceptedNone bay)
          (sym (ap (λ (n : ℕ). bay_at held.bays n) same ∙ built.here))
          (fresh_on state (Some built.cartridge) _ built.store built.bay built.on)
      by number false is =
          let differs : number ≢ 1 = λ same.
          let no : (number == 1) ≡ true = grind (arith, nat_tests) in absurd (cc) in
          subst (λ (bay : Option (BayState D)). AcceptedNone bay) (sym (built.others number differs)) refl

module _ {D : Type 0} where
  -- the same of a start that may have failed (own)
  pub if_started_fresh : (gives : CartridgeEntry → BufferState D → Type 0) (state : D → DiskState)
      (stores : DriveEntry → OpenStore D → Type 0) (entries : List CartridgeEntry) (drives : List DriveEntry)
      (start : Result (HeldState D) VtlFault) → IfOk start (IsStarted gives state stores entries drives)
      → IfOk start HaveAcceptedNone
  if_started_fresh gives state stores entries drives (Ok held) started =
      started_fresh gives state stores entries drives held started
  if_started_fresh gives state stores entries drives (Err fault) started = tt

  -- and of that of the built-in one (own)
  pub if_built_in_fresh : (state : D → DiskState) (barcode capacities : List ℕ) (IsNot : VtlFault → Type 0)
      (start : Result (HeldState D) VtlFault) → IsStart (IsBuiltIn state barcode capacities) IsNot start
      → IfOk start HaveAcceptedNone
  if_built_in_fresh state barcode capacities IsNot (Ok held) built =
      built_in_fresh state barcode capacities held built
  if_built_in_fresh state barcode capacities IsNot (Err fault) built = tt
