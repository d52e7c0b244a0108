-- A call in which the device does not fail drops nothing.
use Rattle.std.specs.Prelude.{◌≡◌, ◌⊎◌, ◌≤◌, ◌<◌, ◌++◌, Bool, ℕ, List, [], ◌∷◌, true, false, length, take, refl, ◌||◌}
use Rattle.std.proofs.Common.{inl, inr, sym, ◌∙◌, ap, subst, arith, append_assoc, append-nil, length-append, true≢false}
use Rattle.std.proofs.lemmas.List.{take_all}
use Rattle.accepted_changes.specs.Device.{Device}
use Rattle.accepted_changes.specs.Core.{Rules, Core, CoreStep, Accept, Store, Safe, Ack, Fault, Stick, Tell, Stop, Rebase, AllMayCome, AllStepTo, NoneTell, accepted_in}
use Rattle.accepted_changes.specs.Laws.{CallsDropNothing}

module _ (rules : Rules) (failed : Type 0) (unfailed : failed → ⊥) where
  -- no fault is known, and there was no stop, or all that was accepted is safe
  record Works (core : Core rules.Base rules.Item) : Type 0 where
    pub fine : core.fault ≡ false
    pub safe : core.safe ≤ core.stored
    pub stored : core.stored ≤ length core.accepted
    pub whole : (core.recovering ≡ false) ⊎ (core.safe ≡ length core.accepted)

  abbrev stuck : Core rules.Base rules.Item → Bool
  stuck core = core.stuck

  -- where a step leaves the mark of an unreported fault, none is reported in the rest
  still : (old next : Core rules.Base rules.Item) (steps : List (CoreStep rules.Item)) → next.stuck ≡ old.stuck
      → (old.stuck ≡ false) ⊎ NoneTell steps → (next.stuck ≡ false) ⊎ NoneTell steps
  still old next steps same (inl unstuck) = inl (same ∙ unstuck)
  still old next steps same (inr none) = inr none

  -- all that was accepted is safe, so it survives a stop
  stops : (core next : Core rules.Base rules.Item) (kept : ℕ) → Works core → core.safe ≡ length core.accepted
      → (kept ≡ core.safe) ⊎ (kept ≡ core.stored)
      → next ≡ record core {
        accepted = take kept core.accepted;
        stored = kept;
        fault = false;
        stuck = false;
        recovering = true;
      } → Works next × (next.accepted ≡ core.accepted)
  stops core next kept works all which is =
      let many : kept ≡ length core.accepted = by which in
      let same : take kept core.accepted ≡ core.accepted = take_all kept core.accepted (omega (arith, many)) in
      subst (λ (c : Core rules.Base rules.Item). Works c × (c.accepted ≡ core.accepted)) (sym is) (
        record {
          fine = refl;
          safe = omega (arith, many, all);
          stored = omega (arith, many, ap (λ (l : List rules.Item). length l) same);
          whole = inr (omega (arith, all, ap (λ (l : List rules.Item). length l) same));
        },
        same,
      )
    where
      by : (kept ≡ core.safe) ⊎ (kept ≡ core.stored) → kept ≡ length core.accepted
      by (inl e) = omega (arith, e, all)
      by (inr e) = omega (arith, e, all, works.safe, works.stored)

  drops_nothing : (old new : Core rules.Base rules.Item) (steps : List (CoreStep rules.Item))
      (leads : AllStepTo rules old steps new) → AllMayCome rules failed old steps new leads
      → (old.stuck ≡ false) ⊎ NoneTell steps → Works old → new.accepted ≡ old.accepted ++ accepted_in steps
  drops_nothing old new [] leads may quiet works =
      ap (λ (c : Core rules.Base rules.Item). c.accepted) leads ∙ sym (append-nil old.accepted)
  drops_nothing old new (Accept item ∷ steps) leads may quiet works =
      let next : Works leads.0 = subst Works (sym leads.1.3) (record {
        fine = works.fine;
        safe = works.safe;
        stored = omega (arith, works.stored, length-append old.accepted (item ∷ []));
        whole = inl leads.1.1;
      }) in
      drops_nothing leads.0 new steps leads.2 may.1 (still old leads.0 steps (ap stuck leads.1.3) quiet)
      next
      ∙ ap (λ (c : Core rules.Base rules.Item). c.accepted ++ accepted_in steps) leads.1.3
      ∙ append_assoc old.accepted (item ∷ []) (accepted_in steps)
  drops_nothing old new (Store count ∷ steps) leads may quiet works =
      let next : Works leads.0 = subst Works (sym leads.1.3) (record {
        fine = works.fine;
        safe = omega (arith, works.safe);
        stored = leads.1.2;
        whole = works.whole;
      }) in
      drops_nothing leads.0 new steps leads.2 may.1 (inl (ap stuck leads.1.3 ∙ leads.1.0.1)) next
      ∙ ap (λ (c : Core rules.Base rules.Item). c.accepted ++ accepted_in steps) leads.1.3
  drops_nothing old new (Safe ∷ steps) leads may quiet works =
      let next : Works leads.0 = subst Works (sym leads.1.1) (record {
        fine = works.fine;
        safe = omega arith;
        stored = works.stored;
        whole = inl refl;
      }) in
      drops_nothing leads.0 new steps leads.2 may.1 (still old leads.0 steps (ap stuck leads.1.1) quiet) next
      ∙ ap (λ (c : Core rules.Base rules.Item). c.accepted ++ accepted_in steps) leads.1.1
  drops_nothing old new (Ack ∷ steps) leads may quiet works =
      drops_nothing leads.0 new steps leads.2 may.1 (inl (ap stuck leads.1.1 ∙ leads.1.0.0.1))
      (subst Works (sym leads.1.1) works)
      ∙ ap (λ (c : Core rules.Base rules.Item). c.accepted ++ accepted_in steps) leads.1.1
  drops_nothing old new (Fault ∷ steps) leads may quiet works = absurd (unfailed may.0)
  drops_nothing old new (Stick ∷ steps) leads may quiet works = absurd (unfailed may.0)
  drops_nothing old new (Tell ∷ steps) leads may (inr none) works = absurd none
  drops_nothing old new (Tell ∷ steps) leads may (inl unstuck) works =
      let next : Works leads.0 = subst Works (sym leads.1) (record {
        fine = λ i. works.fine i || unstuck i;
        safe = works.safe;
        stored = works.stored;
        whole = works.whole;
      }) in
      drops_nothing leads.0 new steps leads.2 may.1 (inl (ap stuck leads.1)) next
      ∙ ap (λ (c : Core rules.Base rules.Item). c.accepted ++ accepted_in steps) leads.1
  drops_nothing old new (Stop kept ∷ steps) leads may quiet works =
      let next = stops old leads.0 kept works (safe_all may.0 works.whole) leads.1.0 leads.1.1 in
      drops_nothing leads.0 new steps leads.2 may.1 (inl (ap stuck leads.1.1)) next.0
      ∙ ap (λ (l : List rules.Item). l ++ accepted_in steps) next.1
    where
      safe_all : (old.fault ≡ true) ⊎ (old.recovering ≡ true) ⊎ (old.safe ≡ length old.accepted)
          → (old.recovering ≡ false) ⊎ (old.safe ≡ length old.accepted) → old.safe ≡ length old.accepted
      safe_all (inl fault) whole = absurd (true≢false (sym fault ∙ works.fine))
      safe_all (inr (inr all)) whole = all
      safe_all (inr (inl stop)) (inl ready) = absurd (true≢false (sym stop ∙ ready))
      safe_all (inr (inl stop)) (inr all) = all
  drops_nothing old new (Rebase ∷ steps) leads may quiet works = absurd may.0

module _ (rules : Rules) (device : Device rules.Image) where
  pub calls_drop_nothing : CallsDropNothing rules device
  calls_drop_nothing disk disk' old new made same core fine ready event quiet =
      drops_nothing rules (device.failures disk < device.failures disk') (λ rose. omega (arith, rose, same)) old
      new event.steps event.leads event.may_come quiet
      (record { fine = fine; safe = core.safe; stored = core.stored; whole = inl ready })
      ∙ ap (λ (l : List rules.Item). old.accepted ++ l) event.accepts
