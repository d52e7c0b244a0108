-- What was acknowledged survives each step.
use Rattle.std.specs.Prelude.{suc, ◌⊎◌, false, true}
use Rattle.std.proofs.Common.{◌≡◌, ℕ, ◌+◌, inl, inr, ◌≤◌, List, [], ◌∷◌, ◌++◌, length, take, drop, refl, sym, ◌∙◌, ap, subst, arith, ⊎_elim, length-append}
use Rattle.std.proofs.lemmas.List.{take-append-drop, take-append-le, take-take, length-take-le, take_all}
use Rattle.accepted_changes.specs.Core.{Rules, Core, CoreStep, Accept, Store, Safe, Ack, Fault, Stick, Tell, Stop, Rebase, IsCore, IsPrefix, IsKept, KeptThrough, NeverRebases, StepsTo, AllStepTo, kept_begins, stopped, told}

module _ (rules : Rules) where
  -- these items were accepted first and are safe, from that base
  pub record HoldsFirst (base : rules.Base) (xs : List rules.Item) (s : Core rules.Base rules.Item) : Type 0 where
    pub safe : length xs ≤ s.safe
    pub first : take (length xs) s.accepted ≡ xs
    pub base_is : s.base ≡ base

  -- these items went into the base
  abbrev HoldsBelow : rules.Base → List rules.Item → Core rules.Base rules.Item → Type 0
  HoldsBelow base xs s =
      (n : ℕ) × (mid : rules.Base) × (more : List rules.Item)
      × KeptThrough rules n base xs mid more × rules.rebases mid more s.base

  -- these items survive: accepted first and safe, or in an earlier base
  pub record Holds (base : rules.Base) (xs : List rules.Item) (s : Core rules.Base rules.Item) : Type 0 where
    pub core : IsCore s
    pub held : HoldsFirst base xs s ⊎ HoldsBelow base xs s

  -- a step that does not change the base
  stays : (base : rules.Base) (xs : List rules.Item) (s t : Core rules.Base rules.Item) → IsCore t
      → t.base ≡ s.base → (length xs ≤ s.safe → length xs ≤ t.safe)
      → (length xs ≤ s.safe → take (length xs) t.accepted ≡ take (length xs) s.accepted)
      → Holds base xs s → Holds base xs t
  stays base xs s t core same safe first h =
      record {
        core = core;
        held =
            ⊎_elim
            (λ (f : HoldsFirst base xs s). inl (record {
              safe = safe f.safe;
              first = first f.safe ∙ f.first;
              base_is = same ∙ f.base_is;
            }))
            (λ (b : HoldsBelow base xs s). inr (
              b.0,
              b.1,
              b.2,
              b.3,
              subst (λ (x : rules.Base). rules.rebases b.1 b.2 x) (sym same) b.4,
            ))
            h.held;
      }

  step_holds : (base : rules.Base) (xs : List rules.Item) (s t : Core rules.Base rules.Item)
      (step : CoreStep rules.Item) → StepsTo rules s step t → Holds base xs s → Holds base xs t
  step_holds base xs s t (Accept c) to h =
      subst (Holds base xs) (sym to.3)
      (stays base xs s (record s { accepted = s.accepted ++ c ∷ [] })
      (record { safe = h.core.safe; stored = omega (arith, h.core.stored, length-append s.accepted (c ∷ [])) })
      refl (λ le. le)
      (λ le. take-append-le (length xs) s.accepted (c ∷ []) (omega (arith, le, h.core.safe, h.core.stored))) h)
  step_holds base xs s t (Store k) to h =
      subst (Holds base xs) (sym to.3)
      (stays base xs s (record s { stored = s.stored + k })
      (record { safe = omega (arith, h.core.safe); stored = to.2 })
      refl (λ le. le) (λ le. refl) h)
  step_holds base xs s t Safe to h =
      subst (Holds base xs) (sym to.1)
      (stays base xs s (record s { safe = s.stored; recovering = false })
      (record { safe = omega arith; stored = h.core.stored }) refl (λ le. omega (arith, le, h.core.safe))
      (λ le. refl) h)
  step_holds base xs s t Ack to h = subst (Holds base xs) (sym to.1) h
  step_holds base xs s t Fault to h =
      subst (Holds base xs) (sym to)
      (stays base xs s (record s { fault = true }) (record { safe = h.core.safe; stored = h.core.stored }) refl
      (λ le. le) (λ le. refl) h)
  step_holds base xs s t Stick to h =
      subst (Holds base xs) (sym to)
      (stays base xs s (record s { stuck = true }) (record { safe = h.core.safe; stored = h.core.stored }) refl
      (λ le. le) (λ le. refl) h)
  step_holds base xs s t Tell to h =
      subst (Holds base xs) (sym to)
      (stays base xs s (told s) (record { safe = h.core.safe; stored = h.core.stored }) refl
      (λ le. le) (λ le. refl) h)
  step_holds base xs s t (Stop k) to h =
      let low : s.safe ≤ k =
      ⊎_elim (λ (e : k ≡ s.safe). omega arith) (λ (e : k ≡ s.stored). omega (arith, h.core.safe)) to.0 in
      let high : k ≤ length s.accepted =
      ⊎_elim (λ (e : k ≡ s.safe). omega (arith, h.core.safe, h.core.stored))
      (λ (e : k ≡ s.stored). omega (arith, h.core.stored)) to.0 in
      subst (Holds base xs) (sym to.1)
      (stays base xs s (stopped k s)
      (record { safe = low; stored = omega (arith, length-take-le k s.accepted high) })
      refl (λ le. le) (λ le. take-take (length xs) k s.accepted (omega (arith, le, low))) h)
  step_holds base xs s t Rebase to h =
      subst (Holds base xs) (sym to.1.2)
      (record {
        core = record { safe = omega arith; stored = omega arith };
        held =
            ⊎_elim
            (λ (f : HoldsFirst base xs s). inr (0, s.base, s.accepted, (f.base_is, prefix f), to.1.1))
            (λ (b : HoldsBelow base xs s). inr (suc b.0, s.base, s.accepted, (b.1, b.2, b.3, b.4), to.1.1))
            h.held;
      })
    where
      prefix : HoldsFirst base xs s → IsPrefix xs s.accepted
      prefix f = (
        drop (length xs) s.accepted,
        sym
            (ap (λ (l : List rules.Item). l ++ drop (length xs) s.accepted) (sym f.first)
            ∙ take-append-drop (length xs) s.accepted),
      )

  pub steps_hold : (base : rules.Base) (xs : List rules.Item) (s t : Core rules.Base rules.Item)
      (steps : List (CoreStep rules.Item)) → AllStepTo rules s steps t → Holds base xs s → Holds base xs t
  steps_hold base xs s t [] is h = subst (Holds base xs) (sym is) h
  steps_hold base xs s t (step ∷ steps) run h =
      steps_hold base xs run.0 t steps run.2 (step_holds base xs s run.0 step run.1 h)

  holds_nothing : (s : Core rules.Base rules.Item) → IsCore s → Holds s.base [] s
  holds_nothing s core =
      record { core = core; held = inl (record { safe = omega arith; first = refl; base_is = refl }) }

  held_core : (old new : Core rules.Base rules.Item) (steps : List (CoreStep rules.Item))
      → IsCore old → AllStepTo rules old steps new → IsCore new
  held_core old new steps core run =
      (steps_hold old.base [] old new steps run (holds_nothing old core)).core

  pub holds_all : (s : Core rules.Base rules.Item) → IsCore s → length s.accepted ≤ s.safe
      → Holds s.base s.accepted s
  holds_all s core all =
      record {
        core = core;
        held = inl (record {
          safe = all;
          first = take_all (length s.accepted) s.accepted (omega arith);
          base_is = refl;
        });
      }

  -- these items survive in each first part that has all that is safe
  pub begins : (base : rules.Base) (xs : List rules.Item) (s : Core rules.Base rules.Item) (n : ℕ) → Holds base xs s
      → s.safe ≤ n → IsKept rules base xs s.base (take n s.accepted)
  begins base xs s n h le =
      ⊎_elim
      (λ (f : HoldsFirst base xs s). (
        0,
        (
          f.base_is,
          (
            drop (length xs) (take n s.accepted),
            sym
                (ap (λ (l : List rules.Item). l ++ drop (length xs) (take n s.accepted))
                (sym (take-take (length xs) n s.accepted (omega (arith, f.safe, le)) ∙ f.first))
                ∙ take-append-drop (length xs) (take n s.accepted)),
          ),
        ),
      ))
      (λ (b : HoldsBelow base xs s). (suc b.0, (b.1, b.2, b.3, b.4)))
      h.held

  -- and in the whole list
  begins_all : (base : rules.Base) (xs : List rules.Item) (s : Core rules.Base rules.Item) → Holds base xs s
      → IsKept rules base xs s.base s.accepted
  begins_all base xs s h =
      subst (λ (l : List rules.Item). IsKept rules base xs s.base l)
      (take_all (length s.accepted) s.accepted (omega arith))
      (begins base xs s (length s.accepted) h (omega (arith, h.core.safe, h.core.stored)))

  pub keeps_core : (old new : Core rules.Base rules.Item) (steps : List (CoreStep rules.Item))
      → IsCore old → AllStepTo rules old steps new → IsCore new × (NeverRebases rules → new.base ≡ old.base)
  keeps_core old new steps core run =
      let h = steps_hold old.base [] old new steps run (holds_nothing old core) in (
        h.core,
        λ never. (kept_begins rules never old.base new.base [] new.accepted (begins_all old.base [] new h)).0,
      )

  pub acknowledged_is_kept : (first acked last : Core rules.Base rules.Item)
      (before after : List (CoreStep rules.Item))
      → IsCore first → AllStepTo rules first before acked → AllStepTo rules acked (Ack ∷ after) last
      → IsKept rules acked.base acked.accepted last.base last.accepted
  acknowledged_is_kept first acked last before after core to from =
      let here = held_core first acked before core to in
      let held = holds_all acked here (omega (arith, from.1.0.1)) in
      begins_all acked.base acked.accepted last
      (steps_hold acked.base acked.accepted from.0 last after from.2
      (step_holds acked.base acked.accepted acked from.0 Ack from.1 held))

  pub safe_is_kept : (old new : Core rules.Base rules.Item) (steps : List (CoreStep rules.Item))
      → IsCore old → AllStepTo rules old steps new
      → IsKept rules old.base (take old.safe old.accepted) new.base new.accepted
  safe_is_kept old new steps core run =
      let fits : old.safe ≤ length old.accepted = omega (arith, core.safe, core.stored) in
      let len = length-take-le old.safe old.accepted fits in
      let held : Holds old.base (take old.safe old.accepted) old =
      record {
        core = core;
        held = inl (record {
          safe = omega (arith, len);
          first = ap (λ (n : ℕ). take n old.accepted) len;
          base_is = refl;
        });
      } in
      begins_all old.base (take old.safe old.accepted) new
      (steps_hold old.base (take old.safe old.accepted) old new steps run held)
