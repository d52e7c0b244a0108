-- What survives: where no step changes the base, and where one does.
use Rattle.std.specs.Prelude.{◌≤◌, ◌<◌, ℕ, zero, suc, List, [], ◌∷◌, length, take, refl}
use Rattle.std.proofs.Common.{inl, inr, ⊎_elim, sym, subst, arith, append-nil}
use Rattle.std.proofs.lemmas.List.{take_all}
use Rattle.accepted_changes.specs.Device.{Device, IsDevice}
use Rattle.accepted_changes.specs.Core.{Rules, Core, CoreStep, Accept, Store, Safe, Ack, Fault, Stick, Tell, Stop, Rebase, AllMayCome, AllStepTo, CanAcknowledge, IsCore, IsKept, NeverRebases, NoneRebases, kept_begins}
use Rattle.accepted_changes.specs.Events.{GivesAcknowledged, ShowsBetween}
use Rattle.accepted_changes.specs.Laws.{AcknowledgedBegins, CrashesKeepAcknowledged, EventsKeepBase, FailuresKeepAccepted, RebasesKeepAccepted}
use Rattle.accepted_changes.specs.Rebasing.{GivesKept, ShowsEither, rebasing_shows, rebasing_steps}
use Rattle.accepted_changes.proofs.KeptLemmas.{acknowledged_is_kept, begins, holds_all, keeps_core, safe_is_kept, steps_hold}

module _ (rules : Rules) where
  -- the same rules, with a base that never changes
  abbrev still : Rules
  still = record rules { rebases = λ base items other. ⊥ }

  never : NeverRebases still
  never base base' items goes = goes

  -- steps of which none changes the base are steps by those rules
  still_steps : (old new : Core rules.Base rules.Item) (steps : List (CoreStep rules.Item)) → NoneRebases steps
      → AllStepTo rules old steps new → AllStepTo still old steps new
  still_steps old new [] none leads = leads
  still_steps old new (Accept item ∷ steps) none leads =
      (leads.0, leads.1, still_steps leads.0 new steps none leads.2)
  still_steps old new (Store count ∷ steps) none leads =
      (leads.0, leads.1, still_steps leads.0 new steps none leads.2)
  still_steps old new (Safe ∷ steps) none leads = (leads.0, leads.1, still_steps leads.0 new steps none leads.2)
  still_steps old new (Ack ∷ steps) none leads = (leads.0, leads.1, still_steps leads.0 new steps none leads.2)
  still_steps old new (Fault ∷ steps) none leads = (leads.0, leads.1, still_steps leads.0 new steps none leads.2)
  still_steps old new (Stick ∷ steps) none leads = (leads.0, leads.1, still_steps leads.0 new steps none leads.2)
  still_steps old new (Tell ∷ steps) none leads = (leads.0, leads.1, still_steps leads.0 new steps none leads.2)
  still_steps old new (Stop kept ∷ steps) none leads =
      (leads.0, leads.1, still_steps leads.0 new steps none leads.2)
  still_steps old new (Rebase ∷ steps) none leads = absurd none

  -- a first part of such steps consists of such steps
  none_in_first : (n : ℕ) (steps : List (CoreStep rules.Item)) → NoneRebases steps → NoneRebases (take n steps)
  none_in_first zero steps none = tt
  none_in_first (suc n) [] none = tt
  none_in_first (suc n) (Accept item ∷ steps) none = none_in_first n steps none
  none_in_first (suc n) (Store count ∷ steps) none = none_in_first n steps none
  none_in_first (suc n) (Safe ∷ steps) none = none_in_first n steps none
  none_in_first (suc n) (Ack ∷ steps) none = none_in_first n steps none
  none_in_first (suc n) (Fault ∷ steps) none = none_in_first n steps none
  none_in_first (suc n) (Stick ∷ steps) none = none_in_first n steps none
  none_in_first (suc n) (Tell ∷ steps) none = none_in_first n steps none
  none_in_first (suc n) (Stop kept ∷ steps) none = none_in_first n steps none
  none_in_first (suc n) (Rebase ∷ steps) none = absurd none

  -- steps that may come in a call change no base
  none_may : (failed : Type 0) (old new : Core rules.Base rules.Item) (steps : List (CoreStep rules.Item))
      (leads : AllStepTo rules old steps new) → AllMayCome rules failed old steps new leads → NoneRebases steps
  none_may failed old new [] leads may = tt
  none_may failed old new (Accept item ∷ steps) leads may = none_may failed leads.0 new steps leads.2 may.1
  none_may failed old new (Store count ∷ steps) leads may = none_may failed leads.0 new steps leads.2 may.1
  none_may failed old new (Safe ∷ steps) leads may = none_may failed leads.0 new steps leads.2 may.1
  none_may failed old new (Ack ∷ steps) leads may = none_may failed leads.0 new steps leads.2 may.1
  none_may failed old new (Fault ∷ steps) leads may = none_may failed leads.0 new steps leads.2 may.1
  none_may failed old new (Stick ∷ steps) leads may = none_may failed leads.0 new steps leads.2 may.1
  none_may failed old new (Tell ∷ steps) leads may = none_may failed leads.0 new steps leads.2 may.1
  none_may failed old new (Stop kept ∷ steps) leads may = none_may failed leads.0 new steps leads.2 may.1
  none_may failed old new (Rebase ∷ steps) leads may = absurd may.0

  pub acknowledged_begins : AcknowledgedBegins rules
  acknowledged_begins first acked last before after core to from none =
      kept_begins still never acked.base last.base acked.accepted last.accepted
      (acknowledged_is_kept still acked acked last [] after (keeps_core rules first acked before core to).0 refl
      (from.0, from.1, still_steps from.0 last after none from.2))

  -- an image of a core between gives what was acknowledged
  gives_acknowledged : (old : Core rules.Base rules.Item) (steps : List (CoreStep rules.Item)) (image : rules.Image)
      → NoneRebases steps → IsCore old → CanAcknowledge old → ShowsBetween rules old steps image
      → GivesAcknowledged rules old steps image
  gives_acknowledged old steps image none core can shows =
      let held = steps_hold still old.base old.accepted old between (take shows.0 steps)
      (still_steps old between (take shows.0 steps) (none_in_first shows.0 steps none) shows.2)
      (holds_all still old core (omega (arith, can.1))) in
      ⊎_elim (given between.safe (begins still old.base old.accepted between between.safe held (omega arith)))
      (given between.stored (begins still old.base old.accepted between between.stored held held.core.safe)) shows.3
    where
      between : Core rules.Base rules.Item
      between = shows.1

      given : (kept : ℕ)
          → IsKept still old.base old.accepted shows.1.base (take kept shows.1.accepted)
          → rules.gives shows.1.base (take kept shows.1.accepted) image → GivesAcknowledged rules old steps image
      given kept is gives =
          let begun = kept_begins still never old.base shows.1.base old.accepted (take kept shows.1.accepted) is in
          record {
            count = shows.0;
            between = shows.1;
            leads = shows.2;
            kept = kept;
            acknowledged = begun.1;
            gives = subst (λ (b : rules.Base). rules.gives b (take kept shows.1.accepted) image) begun.0 gives;
          }

module _ (rules : Rules) (device : Device rules.Image) where
  pub events_keep_base : EventsKeepBase rules device
  events_keep_base disk disk' old new made core event =
      let none = none_may rules (device.failures disk < device.failures disk') old new event.steps event.leads
      event.may_come in
      let safe = kept_begins (still rules) (never rules) old.base new.base (take old.safe old.accepted) new.accepted
      (safe_is_kept (still rules) old new event.steps core
      (still_steps rules old new event.steps none event.leads)) in (
        none,
        record { core = (keeps_core rules old new event.steps core event.leads).0; base = safe.0; safe = safe.1 },
      )

-- all that was accepted could be acknowledged, and a new base may come
module _ (rules : Rules) (old : Core rules.Base rules.Item) (base : rules.Base) (core : IsCore old)
    (could : CanAcknowledge old) where
  -- items that go into a base survive after it, with whatever comes then
  kept_below : rules.rebases old.base old.accepted base → (items : List rules.Item)
      → IsKept rules old.base old.accepted base items
  kept_below goes_into items =
      (suc zero, (old.base, old.accepted, (refl, ([], sym (append-nil old.accepted))), goes_into))

  all_of : (n : ℕ) → length old.accepted ≤ n → (image : rules.Image)
      → rules.gives old.base (take n old.accepted) image → GivesKept rules old.base old.accepted image
  all_of n many image g =
      inl (subst (λ (l : List rules.Item). rules.gives old.base l image) (take_all n old.accepted many) g)

  -- and in what images give during the change
  kept_either : (image : rules.Image) → ShowsEither rules old base image → GivesKept rules old.base old.accepted image
  kept_either image (inl shows) =
      ⊎_elim (all_of old.safe (omega (arith, could.1)) image)
      (all_of old.stored (omega (arith, could.1, core.safe)) image) shows
  kept_either image (inr g) = inr (base, g.1, g.0)

module _ (rules : Rules) (device : Device rules.Image) (laws : IsDevice device) where
  pub crash_keeps : CrashesKeepAcknowledged rules device
  crash_keeps disk disk' old new made honest core can shows moves =
      let event = (moves.goes honest shows).0 in
      let none = (events_keep_base rules device disk disk' old new made core event).0 in (
        event,
        laws.weakened disk disk' (ShowsBetween rules old event.steps) (GivesAcknowledged rules old event.steps)
            event.moments (λ image s. gives_acknowledged rules old event.steps image none core can s),
      )

  pub rebases_keep : RebasesKeepAccepted rules device
  rebases_keep disk disk' old new core r =
      record {
        steps = rebasing_steps rules device disk disk' old new r;
        core =
            (keeps_core rules old new (Rebase ∷ []) core (rebasing_steps rules device disk disk' old new r)).0;
        kept = kept_below rules old new.base core r.could r.goes_into new.accepted;
        shows = λ honest shows. rebasing_shows rules device laws disk disk' old new r honest shows;
        moments = λ honest shows.
            laws.weakened disk disk' (ShowsEither rules old new.base) (GivesKept rules old.base old.accepted)
            (r.moments honest shows) (kept_either rules old new.base core r.could);
      }

  pub failures_keep : FailuresKeepAccepted rules device
  failures_keep disk disk' old base core r honest shows =
      laws.weakened disk disk' (ShowsEither rules old base) (GivesKept rules old.base old.accepted)
      (r.moments honest shows) (kept_either rules old base core r.could)
