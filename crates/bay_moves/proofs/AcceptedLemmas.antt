-- What was accepted at an acknowledgement begins what is accepted later; and what the images of a drive's store give of
-- its orders.
use Rattle.std.proofs.Common.{◌≡◌, ◌∙◌, inl, inr, ℕ, ◌+◌, List, [], ◌∷◌, ◌++◌, length, take, Option, None, Some, refl, sym, ap, subst, arith, length-append}
use Rattle.std.specs.Prelude.{option_map}
use Rattle.std.proofs.lemmas.List.{take_all, take_at}
use Rattle.tape_disk.specs.Disk.{DiskState}
use Rattle.pr_core.specs.declared.states.PrState.{PrState}
use Rattle.pr_core.specs.States.{empty_state, power_loss}
use Rattle.gate_journal.specs.Side.{Heading}
use Rattle.accepted_changes.specs.Core.{AllStepTo, Core, CoreStep, NeverRebases, NoneRebases, Rebase, Rules}
use Rattle.accepted_changes.specs.Events.{ShowsCore}
use Rattle.accepted_changes.specs.Laws.{AcknowledgedBegins, AcknowledgedIsKept, KeptBegins}
use Rattle.aptpl_store.specs.Contents.{OpensAs}
use Rattle.tape_buffer.specs.Moves.{buffer_below}
use Rattle.tape_buffer.specs.State.{state_of}
use Rattle.bay_moves.specs.Accepted.{GoesIntoBase, PrEvent, StopsKeepAccepted, StopsKeepThrough, order_rules, orders_core, pr_after, pr_after_all}
use Rattle.bay_moves.specs.Bays.{ShowsOrders}
use Rattle.bay_moves.specs.Elements.{BayState}
use Rattle.bay_moves.specs.Reservations.{GivesHeld, HoldingGives, IsHolding}

pub stops_keep : (rules : Rules) → AcknowledgedIsKept rules → KeptBegins rules → NeverRebases rules
    → StopsKeepAccepted rules
stops_keep rules kept begins never first acked last events before after rest all core one two =
    (begins never acked.base last.base acked.accepted last.accepted
    (kept first acked last before after core one two)).1

-- steps, one after another, lead to a core between
parted : (rules : Rules) (a c : Core rules.Base rules.Item) (first second : List (CoreStep rules.Item))
    → AllStepTo rules a (first ++ second) c
    → (b : Core rules.Base rules.Item) × AllStepTo rules a first b × AllStepTo rules b second c
parted rules a c [] second leads = (a, refl, leads)
parted rules a c (step ∷ first) second leads =
    let rest = parted rules leads.0 c first second leads.2 in (rest.0, (leads.0, leads.1, rest.1), rest.2)

pub stops_keep_through : (rules : Rules) → AcknowledgedIsKept rules → AcknowledgedBegins rules → StopsKeepThrough rules
stops_keep_through rules kept begins first acked last events before after rest all core one two =
    record {
      kept = kept first acked last before after core one two;
      base = λ none. (begins first acked last before after core one two none).0;
      first = λ none. (begins first acked last before after core one two none).1;
      into = into;
    }
  where
    into : (until behind : List (CoreStep rules.Item)) → after ≡ until ++ Rebase ∷ behind → NoneRebases until
        → GoesIntoBase rules acked until behind last
    into until behind is none =
        let leads : AllStepTo rules acked (until ++ Rebase ∷ behind) last =
        subst (λ (steps : List (CoreStep rules.Item)). AllStepTo rules acked steps last) is
        (subst (λ (x : Core rules.Base rules.Item). AllStepTo rules x after last) two.1.1 two.2) in
        let parts = parted rules acked last until (Rebase ∷ behind) leads in
        let begun = begins first acked parts.0 before until core one (acked, (two.1.0, refl), parts.1) none in
        record {
          mid = parts.0;
          next = parts.2.0;
          until = parts.1;
          base = begun.0;
          first = begun.1;
          into = parts.2.1;
          behind = parts.2.2;
        }

-- one more comes last
more_last : (state : PrState) (events : List PrEvent) (event : PrEvent)
    → pr_after_all state (events ++ event ∷ []) ≡ pr_after (pr_after_all state events) event
more_last state [] event = refl
more_last state (next ∷ events) event = more_last (pr_after state next) events event

opens_as : (heading : Heading) (xs ys : List PrEvent) (image : List ℕ) → xs ≡ ys
    → OpensAs heading (power_loss (pr_after_all empty_state xs)) image
    → OpensAs heading (power_loss (pr_after_all empty_state ys)) image
opens_as heading xs ys image same opens =
    subst (λ (l : List PrEvent). OpensAs heading (power_loss (pr_after_all empty_state l)) image) same opens

-- what is safe of the orders, and what is stored
safe_gives : (heading : Heading) (events : List PrEvent) (failed : Option PrEvent) (image : List ℕ)
    → OpensAs heading (power_loss (pr_after_all empty_state events)) image
    → ShowsCore order_rules (orders_core heading events failed) image
safe_gives heading events None image opens =
    inl (opens_as heading events (take (length events) events) image
    (sym (take_all (length events) events (omega arith))) opens)
safe_gives heading events (Some failed) image opens =
    inl (opens_as heading events (take (length events) (events ++ failed ∷ [])) image
    (sym (take_at events (failed ∷ []) (length events) refl)) opens)

stored_gives : (heading : Heading) (events : List PrEvent) (failed : PrEvent) (image : List ℕ)
    → OpensAs heading (power_loss (pr_after (pr_after_all empty_state events) failed)) image
    → ShowsCore order_rules (orders_core heading events (Some failed)) image
stored_gives heading events failed image opens =
    inr (opens_as heading (events ++ failed ∷ []) (take (length events + 1) (events ++ failed ∷ [])) image
    (sym (take_all (length events + 1) (events ++ failed ∷ []) (omega (arith, length-append events (failed ∷ [])))))
    (subst (λ (s : PrState). OpensAs heading (power_loss s) image) (sym (more_last empty_state events failed)) opens))

module _ {D : Type 0} (state : D → DiskState) where
  by_held : (bay : BayState D) (events : List PrEvent) (failed : Option PrEvent)
      → pr_after_all empty_state events ≡ bay.reservations
      → bay.keeper.torn ≡ option_map (pr_after bay.reservations) failed → (image : List ℕ)
      → GivesHeld (state_of state) (buffer_below state) state bay image
      → ShowsCore order_rules (orders_core bay.keeper.heading events failed) image
  by_held bay events failed held torn image (inl opens) =
      safe_gives bay.keeper.heading events failed image
      (subst (λ (s : PrState). OpensAs bay.keeper.heading (power_loss s) image) (sym held) opens)
  by_held bay events None held torn image (inr (found, is, opens)) =
      let clash : None ≡ Some found = sym torn ∙ is in absurd (cc)
  by_held bay events (Some failed) held torn image (inr (found, is, opens)) =
      let clash : Some (pr_after bay.reservations failed) ≡ Some found = sym torn ∙ is in
      let same : found ≡ pr_after bay.reservations failed = cc in
      stored_gives bay.keeper.heading events failed image
      (subst (λ (s : PrState). OpensAs bay.keeper.heading (power_loss s) image)
      (same ∙ ap (λ (s : PrState). pr_after s failed) (sym held)) opens)

  pub shows_orders : HoldingGives (state_of state) (buffer_below state) state → (bay : BayState D)
      → IsHolding (state_of state) (buffer_below state) state bay → ShowsOrders state bay
  shows_orders gives bay holding events failed held torn honest = λ image may.
      by_held bay events failed held torn image (gives bay holding honest image may)
