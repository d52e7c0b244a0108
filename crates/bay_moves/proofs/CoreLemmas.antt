-- What steps may leave that start from states which are all safe: these states, or these with one more.
use Rattle.std.proofs.Common.{◌≡◌, ◌⊎◌, inl, inr, ℕ, zero, suc, ◌≤◌, ◌<◌, ◌+◌, List, [], ◌∷◌, ◌++◌, length, take, refl, sym, ◌∙◌, ap, subst, arith, length-append}
use Rattle.std.proofs.lemmas.Bool.{cases_lt}
use Rattle.std.proofs.lemmas.List.{length-take-le, take_all, take_at}
use Rattle.accepted_changes.specs.Core.{Rules, Core, CoreStep, Accept, Store, Safe, Ack, Fault, Stick, Tell, Stop, Rebase, AllStepTo, NeverRebases, accepted_in}

-- the first item, or this one
abbrev head_or : {A : Type 0} → A → List A → A
head_or nothing [] = nothing
head_or nothing (x ∷ xs) = x

-- all items but the first
abbrev tail_of : {A : Type 0} → List A → List A
tail_of [] = []
tail_of (x ∷ xs) = xs

module _ (rules : Rules) (base : rules.Base) (states : List rules.Item) (more : rules.Item) where
  -- these states, or these with one more
  abbrev pub Either : List rules.Item → Type 0
  Either accepted = (accepted ≡ states) ⊎ (accepted ≡ states ++ more ∷ [])

  -- a core that has accepted these states or one more, and in which all of these are safe
  pub record Within (core : Core rules.Base rules.Item) : Type 0 where
    pub base_is : core.base ≡ base
    pub accepted : Either core.accepted
    pub safe : length states ≤ core.safe
    pub stored : core.safe ≤ core.stored
    pub all : core.stored ≤ length core.accepted

  -- a first part of what was accepted, with at least these states
  pub first_many : (accepted : List rules.Item) (count : ℕ) → Either accepted → length states ≤ count
      → count ≤ length accepted → Either (take count accepted)
  first_many accepted count (inl is) enough few =
      inl (take_all count accepted (omega (arith, enough, ap (λ (l : List rules.Item). length l) is)) ∙ is)
  first_many accepted count (inr is) enough few = by (cases_lt (length states) count)
    where
      counted : length accepted ≡ length states + 1
      counted = omega (arith, ap (λ (l : List rules.Item). length l) is, length-append states (more ∷ []))

      by : (length states < count) ⊎ (count ≤ length states) → Either (take count accepted)
      by (inl one_more) = inr (take_all count accepted (omega (arith, counted, one_more)) ∙ is)
      by (inr just) =
          let here : count ≡ length states = omega (arith, just, enough) in
          inl (ap (take count) is ∙ ap (λ (n : ℕ). take n (states ++ more ∷ [])) here
          ∙ take_at states (more ∷ []) (length states) refl)

  -- what steps may still accept: nothing, or the one more
  abbrev pub MayAccept : List (CoreStep rules.Item) → List rules.Item → Type 0
  MayAccept steps accepted =
      (accepted_in steps ≡ []) ⊎ ((accepted_in steps ≡ more ∷ []) × (accepted ≡ states))

  pub within_steps : NeverRebases rules → (steps : List (CoreStep rules.Item))
      (old new : Core rules.Base rules.Item) → Within old
      → MayAccept steps old.accepted → AllStepTo rules old steps new → Within new
  within_steps never [] old new is may leads = subst Within (sym leads) is
  within_steps never (Accept item ∷ steps) old new is (inl none) leads = absurd (cc)
  within_steps never (Accept item ∷ steps) old new is (inr one) leads =
      let this : item ≡ more = ap (λ (l : List rules.Item). head_or item l) one.0 in
      let rest : accepted_in steps ≡ [] = ap (λ (l : List rules.Item). tail_of l) one.0 in
      let mid = leads.0 in
      let mid_is = leads.1.3 in
      within_steps never steps mid new (subst Within (sym mid_is) (record {
        base_is = is.base_is;
        accepted = inr (λ i. one.1 i ++ this i ∷ []);
        safe = is.safe;
        stored = is.stored;
        all = omega (arith, is.all, length-append old.accepted (item ∷ []));
      })) (inl rest) leads.2
  within_steps never (Store count ∷ steps) old new is may leads =
      within_steps never steps leads.0 new (subst Within (sym leads.1.3) (record {
        base_is = is.base_is;
        accepted = is.accepted;
        safe = is.safe;
        stored = omega (arith, is.stored);
        all = omega (arith, leads.1.2);
      })) (subst (λ (c : Core rules.Base rules.Item). MayAccept steps c.accepted) (sym leads.1.3) may) leads.2
  within_steps never (Safe ∷ steps) old new is may leads =
      within_steps never steps leads.0 new (subst Within (sym leads.1.1) (record {
        base_is = is.base_is;
        accepted = is.accepted;
        safe = omega (arith, is.safe, is.stored);
        stored = omega arith;
        all = is.all;
      })) (subst (λ (c : Core rules.Base rules.Item). MayAccept steps c.accepted) (sym leads.1.1) may) leads.2
  within_steps never (Ack ∷ steps) old new is may leads =
      within_steps never steps leads.0 new (subst Within (sym leads.1.1) is)
      (subst (λ (c : Core rules.Base rules.Item). MayAccept steps c.accepted) (sym leads.1.1) may) leads.2
  within_steps never (Fault ∷ steps) old new is may leads =
      within_steps never steps leads.0 new (subst Within (sym leads.1) (record {
        base_is = is.base_is;
        accepted = is.accepted;
        safe = is.safe;
        stored = is.stored;
        all = is.all;
      })) (subst (λ (c : Core rules.Base rules.Item). MayAccept steps c.accepted) (sym leads.1) may) leads.2
  within_steps never (Stick ∷ steps) old new is may leads =
      within_steps never steps leads.0 new (subst Within (sym leads.1) (record {
        base_is = is.base_is;
        accepted = is.accepted;
        safe = is.safe;
        stored = is.stored;
        all = is.all;
      })) (subst (λ (c : Core rules.Base rules.Item). MayAccept steps c.accepted) (sym leads.1) may) leads.2
  within_steps never (Tell ∷ steps) old new is may leads =
      within_steps never steps leads.0 new (subst Within (sym leads.1) (record {
        base_is = is.base_is;
        accepted = is.accepted;
        safe = is.safe;
        stored = is.stored;
        all = is.all;
      })) (subst (λ (c : Core rules.Base rules.Item). MayAccept steps c.accepted) (sym leads.1) may) leads.2
  within_steps never (Stop kept ∷ steps) old new is may leads =
      within_steps never steps leads.0 new (subst Within (sym leads.1.1) (record {
        base_is = is.base_is;
        accepted = first_many old.accepted kept is.accepted enough (omega (arith, few));
        safe = is.safe;
        stored = at_least;
        all = omega (arith, length-take-le kept old.accepted few);
      })) (subst (λ (c : Core rules.Base rules.Item). MayAccept steps c.accepted) (sym leads.1.1) (still may)) leads.2
    where
      at_least : old.safe ≤ kept
      at_least = by leads.1.0
        where
          by : (kept ≡ old.safe) ⊎ (kept ≡ old.stored) → old.safe ≤ kept
          by (inl here) = omega (arith, here)
          by (inr here) = omega (arith, here, is.stored)

      few : kept ≤ length old.accepted
      few = by leads.1.0
        where
          by : (kept ≡ old.safe) ⊎ (kept ≡ old.stored) → kept ≤ length old.accepted
          by (inl here) = omega (arith, here, is.stored, is.all)
          by (inr here) = omega (arith, here, is.all)

      enough : length states ≤ kept
      enough = omega (arith, is.safe, at_least)

      still : MayAccept (Stop kept ∷ steps) old.accepted → MayAccept steps (take kept old.accepted)
      still (inl none) = inl none
      still (inr one) =
          inr (
            one.0,
            take_all kept old.accepted (omega (arith, enough, ap (λ (l : List rules.Item). length l) one.1)) ∙ one.1,
          )
  within_steps never (Rebase ∷ steps) old new is may leads =
      absurd (never old.base leads.1.1.0 old.accepted leads.1.1.1)

  -- where steps accept nothing, a first part of them accepts nothing
  fewer_none : (steps : List (CoreStep rules.Item)) (count : ℕ) → accepted_in steps ≡ []
      → accepted_in (take count steps) ≡ []
  fewer_none steps zero none = refl
  fewer_none [] (suc count) none = refl
  fewer_none (Accept item ∷ steps) (suc count) none = absurd (cc)
  fewer_none (Store n ∷ steps) (suc count) none = fewer_none steps count none
  fewer_none (Safe ∷ steps) (suc count) none = fewer_none steps count none
  fewer_none (Ack ∷ steps) (suc count) none = fewer_none steps count none
  fewer_none (Fault ∷ steps) (suc count) none = fewer_none steps count none
  fewer_none (Stick ∷ steps) (suc count) none = fewer_none steps count none
  fewer_none (Tell ∷ steps) (suc count) none = fewer_none steps count none
  fewer_none (Stop n ∷ steps) (suc count) none = fewer_none steps count none
  fewer_none (Rebase ∷ steps) (suc count) none = fewer_none steps count none

  -- a first part of steps accepts what may still be accepted
  pub fewer_accept : (steps : List (CoreStep rules.Item)) (count : ℕ) (accepted : List rules.Item)
      → MayAccept steps accepted → MayAccept (take count steps) accepted
  fewer_accept steps zero accepted may = inl refl
  fewer_accept [] (suc count) accepted may = inl refl
  fewer_accept (Accept item ∷ steps) (suc count) accepted (inl none) = absurd (cc)
  fewer_accept (Accept item ∷ steps) (suc count) accepted (inr one) =
      inr ((λ i. head_or item (one.0 i) ∷ fewer_none steps count (ap tail_of one.0) i), one.1)
  fewer_accept (Store n ∷ steps) (suc count) accepted may = fewer_accept steps count accepted may
  fewer_accept (Safe ∷ steps) (suc count) accepted may = fewer_accept steps count accepted may
  fewer_accept (Ack ∷ steps) (suc count) accepted may = fewer_accept steps count accepted may
  fewer_accept (Fault ∷ steps) (suc count) accepted may = fewer_accept steps count accepted may
  fewer_accept (Stick ∷ steps) (suc count) accepted may = fewer_accept steps count accepted may
  fewer_accept (Tell ∷ steps) (suc count) accepted may = fewer_accept steps count accepted may
  fewer_accept (Stop n ∷ steps) (suc count) accepted may = fewer_accept steps count accepted may
  fewer_accept (Rebase ∷ steps) (suc count) accepted may = fewer_accept steps count accepted may
