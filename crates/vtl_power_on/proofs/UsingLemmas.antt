-- A library that is opened, used and ended, and what is left of it.
use Rattle.std.proofs.Common.{◌≡◌, ◌≢◌, ℕ, ◌+◌, ◌<◌, Bool, List, length, get_or, take, sum_by, Option, None, Some, is_some, Result, Ok, Err, inl, inr, refl, sym, ap, ◌∙◌, arith, cond, subst}
use Rattle.std.specs.Prelude.{◌⊎◌, IfOk, IfErr}
use Rattle.std.proofs.lemmas.List.{ext_get_or, get_or_default}
use Rattle.std.proofs.lemmas.List.FromFn.{get_or-range_with_len, length-range_with_len}
use Rattle.std.proofs.lemmas.List.Sums.{sum_by_more}
use Rattle.tape_disk.specs.Disk.{DiskState}
use Rattle.tape_buffer.specs.State.{BufferState}
use Rattle.bay_moves.specs.Elements.{BayState, HeldState}
use Rattle.library.specs.Counts.{one_if_there}
use Rattle.library.specs.Ends.{EndsShared}
use Rattle.library_scripts.specs.Ran.{RunsShared}
use Rattle.library.specs.declared.finishing.FinishError.{FinishError}
use Rattle.vtl_script.specs.Runs.{TakesWithin}
use Rattle.vtl_script.specs.declared.faults.ScriptFault.{ScriptFault}
use Rattle.vtl_script.specs.declared.faults.ScriptFault.TheVariants.{ReadFault}
use Rattle.vtl_config.specs.Configs.{Says}
use Rattle.vtl_config.specs.declared.entries.Config.{Config}
use Rattle.vtl_wire.specs.declared.faults.WireFault.{WireFault}
use Rattle.vtl_serve.specs.Libraries.{ServesShared}
use Rattle.vtl_serve.specs.declared.labels.Label.{Label}
use Rattle.vtl_faults.specs.declared.faults.VtlFault.{VtlFault}
use Rattle.vtl_faults.specs.declared.faults.VtlFault.TheVariants as Faults
use Rattle.vtl_faults.specs.FromBelow.{IsFailure}
use Rattle.vtl_power_on.specs.Running.{RunsStarted, every_nexus, outcome_of}
use Rattle.vtl_power_on.specs.Serving.{ServesStarted, labels_of, served_outcome}
use Rattle.vtl_power_on.specs.Sides.{SidesGiven}
use Rattle.vtl_power_on.specs.Starting.{IsNotStarted, IsStarted}
use Rattle.vtl_power_on.specs.Unfinished.{NotStartedState}
use Rattle.vtl_power_on.specs.Using.{UsesConfig, UsesFrom, UsesHeld, work_of}
use Rattle.vtl_power_on.specs.declared.works.Purpose.{Purpose}
use Rattle.vtl_power_on.specs.declared.works.Work.{Work}
use Rattle.vtl_power_on.specs.declared.works.Work.TheVariants.{Script, Frames}
use Rattle.vtl_power_on.proofs.IdleLemmas.{keeps_same}

-- so many hosts, each with the number of its place, are all
pub every_one : (hosts : List ℕ) → length hosts ≡ 64 → ((k : ℕ) → k < 64 → get_or hosts k 0 ≡ k + 1)
    → hosts ≡ every_nexus
every_one hosts long each =
    ext_get_or 0 hosts every_nexus (long ∙ sym (length-range_with_len 1 64))
    (λ i within.
    let below : i < 64 = omega (arith, within, long) in
    each i below ∙ omega arith ∙ sym (get_or-range_with_len 1 64 i 0 below))

-- one more place of a row was looked at
module _ {X : Type 0} where
  one_of : (found : Option X) → one_if_there found ≡ cond (is_some found) 1 0
  one_of None = refl
  one_of (Some x) = refl

  pub counted_more : (row : List (Option X)) (i count : ℕ) (found : Option X) (there : Bool) → i < length row
      → found ≡ get_or row i found → there ≡ is_some found → count ≡ sum_by one_if_there (take i row)
      → count + cond there 1 0 ≡ sum_by one_if_there (take (i + 1) row)
  counted_more row i count found there within value is so_far =
      let here : one_if_there (get_or row i None) ≡ cond there 1 0 =
      ap (λ (x : Option X). one_if_there x) (get_or_default row i None found within ∙ sym value)
      ∙ one_of found
      ∙ ap (λ (b : Bool). cond b 1 0) (sym is) in
      let more = sum_by_more one_if_there row i None within in
      omega (arith, here, more, so_far)

module _ {D : Type 0} where
  -- a library is what it is made of
  pub put_together : (old : HeldState D) (slots : List (Option (BufferState D))) (bays : List (Option (BayState D)))
      → slots ≡ old.slots → bays ≡ old.bays → record { slots = slots; bays = bays } ≡ old
  put_together old slots bays same_slots same_bays =
      let of : List (Option (BufferState D)) → List (Option (BayState D)) → HeldState D =
      λ s b. record { slots = s; bays = b } in
      ap (λ (s : List (Option (BufferState D))). of s bays) same_slots
      ∙ ap (λ (b : List (Option (BayState D))). of old.slots b) same_bays

  -- a script was run over the drives of a library, which is left so
  pub ran_over : (state : D → DiskState) (old new : HeldState D) (bays : List (Option (BayState D))) (hosts : List ℕ)
      (left left' before now : Option (List ℕ)) (ended : Result (Unit {0}) ScriptFault)
      (counts : Result (List (Option ℕ)) FinishError) (answers moves : ℕ) (outcome : Result (Unit {0}) VtlFault)
      → bays ≡ old.bays → hosts ≡ every_nexus
      → RunsShared state bays hosts left before now ended new.bays counts answers moves
      → (ended ≢ Err ReadFault → TakesWithin left 0 left') → EndsShared state bays new.bays new.slots counts
      → outcome ≡ outcome_of ended counts → RunsStarted state old left left' before now new outcome
  ran_over state old new bays hosts left left' before now ended counts answers moves outcome are all runs takes ends
      printed =
      record {
        ended = ended;
        counts = counts;
        answers = answers;
        moves = moves;
        runs =
            subst (λ (row : List (Option (BayState D))).
            RunsShared state row every_nexus left before now ended new.bays counts answers moves) are
            (subst (λ (xs : List ℕ). RunsShared state bays xs left before now ended new.bays counts answers moves) all
            runs);
        takes = takes;
        ends = subst (λ (row : List (Option (BayState D))). EndsShared state row new.bays new.slots counts) are ends;
        outcome_is = printed;
      }

  -- frames were served over the drives of a library, which is left so
  pub served_over : (state : D → DiskState) (old new : HeldState D) (labels : List Label)
      (bays : List (Option (BayState D))) (hosts : List ℕ) (left left' before now : Option (List ℕ))
      (ended : Result (Unit {0}) WireFault) (counts : Result (List (Option ℕ)) FinishError) (answers moves : ℕ)
      (outcome : Result (Unit {0}) VtlFault) → bays ≡ old.bays → hosts ≡ every_nexus
      → ServesShared state bays labels hosts left before left' now ended new.bays counts answers moves
      → EndsShared state bays new.bays new.slots counts
      → outcome ≡ served_outcome ended counts → ServesStarted state old labels left left' before now new outcome
  served_over state old new labels bays hosts left left' before now ended counts answers moves outcome are all serves
      ends printed =
      record {
        ended = ended;
        counts = counts;
        answers = answers;
        moves = moves;
        serves =
            subst (λ (row : List (Option (BayState D))).
            ServesShared state row labels every_nexus left before left' now ended new.bays counts answers moves) are
            (subst (λ (xs : List ℕ).
            ServesShared state bays labels xs left before left' now ended new.bays counts answers moves) all serves);
        ends = subst (λ (row : List (Option (BayState D))). EndsShared state row new.bays new.slots counts) are ends;
        outcome_is = printed;
      }

  -- nothing was done over a library for which memory ran out
  pub unused : (state : D → DiskState) (work : Work) (old new : HeldState D) (left before : Option (List ℕ))
      (outcome : Result (Unit {0}) VtlFault) → outcome ≡ Err Faults.NoMemory → new ≡ old
      → UsesHeld work state old left left before before new outcome
  unused state Script old new left before outcome why same =
      inr (why, same, (keeps_same left, keeps_same before))
  unused state (Frames labels) old new left before outcome why same =
      inr (why, same, (keeps_same left, keeps_same before))

module _ {D : Type 0} (state : D → DiskState) (sides : SidesGiven D) (gives_up : NotStartedState D → Type 0)
    (config : Config) where
  -- the library of a configuration is not switched on: not because a home or a number is double
  pub not_started : (fault : VtlFault) (text : List ℕ) → Says text config
      → IsNotStarted state sides gives_up config.cartridges.items config.drives.items fault
      → IsFailure fault × IsNotStarted state sides gives_up config.cartridges.items config.drives.items fault
  not_started Faults.Device text says why = (tt, why)
  not_started Faults.NoMemory text says why = (tt, why)
  not_started Faults.Config text says why =
      absurd (why (says.says.cartridges.2.homes, says.says.drives.2.numbers))
  not_started Faults.Words text says why = absurd why
  not_started (Faults.Script line) text says why = absurd why
  not_started (Faults.Frame number) text says why = absurd why

  pub if_not_started : (start : Result (HeldState D) VtlFault) (text : List ℕ) → Says text config
      → IfErr start (IsNotStarted state sides gives_up config.cartridges.items config.drives.items)
      → IfErr start (λ fault. (fault ≡ Faults.NoMemory)
      ⊎ (IsFailure fault × IsNotStarted state sides gives_up config.cartridges.items config.drives.items fault))
  if_not_started (Ok held) text says why = tt
  if_not_started (Err fault) text says why = inr (not_started fault text says why)

  -- the work of a purpose was done over the library of a configuration
  pub used_config : (purpose : Purpose) (work : Work) (closes_all : HeldState D → Type 0)
      (start : Result (HeldState D) VtlFault) (left left' before now : Option (List ℕ))
      (outcome : Result (Unit {0}) VtlFault) → work ≡ work_of purpose (labels_of config.cartridges.items)
      → IfOk start
      (IsStarted sides.gives_cartridge state sides.gives_store config.cartridges.items config.drives.items)
      → IfErr start (λ fault. (fault ≡ Faults.NoMemory)
      ⊎ (IsFailure fault × IsNotStarted state sides gives_up config.cartridges.items config.drives.items fault))
      → UsesFrom work state closes_all start left left' before now outcome
      → UsesConfig purpose state sides closes_all gives_up config left left' before now outcome
  used_config purpose work closes_all (Ok held) left left' before now outcome same is why used = inr (
    Ok held,
    is,
    subst (λ (w : Work). UsesFrom w state closes_all (Ok held) left left' before now outcome) same used,
  )
  used_config purpose work closes_all (Err fault) left left' before now outcome same is (inl none) used =
      inl (subst (λ (f : VtlFault). outcome ≡ Err f) none used.0, used.1)
  used_config purpose work closes_all (Err fault) left left' before now outcome same is (inr why) used =
      inr (Err fault, why, used)
