-- What no step does after a fault, until a stop comes.
use Rattle.std.specs.Prelude.{◌≡◌, ◌⊎◌, ◌||◌, Bool, List, [], ◌∷◌, true, false, refl}
use Rattle.std.proofs.Common.{inl, inr, ⊎_elim, sym, ◌∙◌, ap, subst, true≢false}
use Rattle.accepted_changes.specs.Core.{Rules, Core, CoreStep, Accept, Store, Safe, Ack, Fault, Stick, Tell, Stop, Rebase, AllStepTo, IsWorking, NoneAck, NoneStop, accepted_in, told}
use Rattle.accepted_changes.specs.Laws.{FaultsStayUntilStopped, HadFault, IsToldOnce, StaysBroken, StopsClearFaults}

module _ (rules : Rules) where
  not_working : (core : Core rules.Base rules.Item) → HadFault rules core → IsWorking core → ⊥
  not_working core (inl failed) works = true≢false (sym failed ∙ works.0)
  not_working core (inr stuck) works = true≢false (sym stuck ∙ works.1)

  -- a step that accepts, stores and makes safe nothing, before others
  first_stays : (old mid between new : Core rules.Base rules.Item) (steps all : List (CoreStep rules.Item))
      → (NoneAck steps → NoneAck all) → accepted_in all ≡ accepted_in steps → between ≡ mid
      → mid.stored ≡ old.stored → mid.safe ≡ old.safe → mid.recovering ≡ old.recovering
      → mid.accepted ≡ old.accepted → (old.fault ≡ true → mid.fault ≡ true)
      → StaysBroken rules between steps new → StaysBroken rules old all new
  first_stays old mid between new steps all none same is stored safe ready accepted fault rest =
      let from = subst (λ (c : Core rules.Base rules.Item). StaysBroken rules c steps new) is rest in
      record {
        broken = from.broken;
        stored = from.stored ∙ stored;
        safe = λ before. let kept = from.safe (ready ∙ before) in (kept.0, kept.1 ∙ safe);
        acks = none from.acks;
        reported = λ failed. let kept = from.reported (fault failed) in (kept.0, kept.1 ∙ accepted, same ∙ kept.2);
      }

  marked : (f s : Bool) → (f ≡ true) ⊎ (s ≡ true) → f || s ≡ true
  marked true s marks = refl
  marked false s (inl failed) = absurd (true≢false (sym failed))
  marked false s (inr stuck) = stuck

  pub faults_stay : FaultsStayUntilStopped rules
  faults_stay old new [] leads none broken =
      subst (λ (c : Core rules.Base rules.Item). StaysBroken rules old [] c) (sym leads)
      (record {
        broken = broken;
        stored = refl;
        safe = λ ready. (ready, refl);
        acks = tt;
        reported = λ failed. (failed, refl, refl);
      })
  faults_stay old new (Accept item ∷ steps) leads none broken =
      let is = leads.1.3 in
      let rest = faults_stay leads.0 new steps leads.2 none (subst (HadFault rules) (sym is) broken) in
      record {
        broken = rest.broken;
        stored = rest.stored ∙ ap (λ (c : Core rules.Base rules.Item). c.stored) is;
        safe = λ ready.
            let kept = rest.safe (ap (λ (c : Core rules.Base rules.Item). c.recovering) is ∙ ready) in
            (kept.0, kept.1 ∙ ap (λ (c : Core rules.Base rules.Item). c.safe) is);
        acks = rest.acks;
        reported = λ failed. absurd (true≢false (sym failed ∙ leads.1.0));
      }
  faults_stay old new (Store count ∷ steps) leads none broken = absurd (not_working old broken leads.1.0)
  faults_stay old new (Safe ∷ steps) leads none broken =
      let is = leads.1.1 in
      let rest = faults_stay leads.0 new steps leads.2 none (subst (HadFault rules) (sym is) broken) in
      record {
        broken = rest.broken;
        stored = rest.stored ∙ ap (λ (c : Core rules.Base rules.Item). c.stored) is;
        safe = λ ready.
            absurd (⊎_elim (not_working old broken) (λ stopped. true≢false (sym stopped ∙ ready)) leads.1.0);
        acks = rest.acks;
        reported = λ failed.
            let kept = rest.reported (ap (λ (c : Core rules.Base rules.Item). c.fault) is ∙ failed) in
            (kept.0, kept.1 ∙ ap (λ (c : Core rules.Base rules.Item). c.accepted) is, kept.2);
      }
  faults_stay old new (Ack ∷ steps) leads none broken = absurd (not_working old broken leads.1.0.0)
  faults_stay old new (Fault ∷ steps) leads none broken =
      let is = leads.1 in
      first_stays old (record old { fault = true }) leads.0 new steps (Fault ∷ steps) (λ acks. acks) refl is
      refl refl refl refl (λ failed. refl)
      (faults_stay leads.0 new steps leads.2 none (subst (HadFault rules) (sym is) (inl refl)))
  faults_stay old new (Stick ∷ steps) leads none broken =
      let is = leads.1 in
      first_stays old (record old { stuck = true }) leads.0 new steps (Stick ∷ steps) (λ acks. acks) refl is
      refl refl refl refl (λ failed. failed)
      (faults_stay leads.0 new steps leads.2 none (subst (HadFault rules) (sym is) (inr refl)))
  faults_stay old new (Tell ∷ steps) leads none broken =
      let is = leads.1 in
      let failed = marked old.fault old.stuck broken in
      first_stays old (told old) leads.0 new steps (Tell ∷ steps) (λ acks. acks) refl is refl refl refl refl
      (λ before. failed)
      (faults_stay leads.0 new steps leads.2 none (subst (HadFault rules) (sym is) (inl failed)))
  faults_stay old new (Stop kept ∷ steps) leads none broken = absurd none
  faults_stay old new (Rebase ∷ steps) leads none broken = absurd (not_working old broken leads.1.0.0)

  pub stops_clear : StopsClearFaults rules
  stops_clear old new kept stop = subst (λ (c : Core rules.Base rules.Item). IsWorking c) (sym stop.1) (refl, refl)

  pub told_once : IsToldOnce rules
  told_once old mid new one two = two ∙ subst (λ (c : Core rules.Base rules.Item). told c ≡ c) (sym one) (again old)
    where
      once : (f s : Bool) → (f || s) || false ≡ f || s
      once true s = refl
      once false true = refl
      once false false = refl

      again : (core : Core rules.Base rules.Item) → told (told core) ≡ told core
      again core = λ i. record (told core) { fault = once core.fault core.stuck i; stuck = false }
