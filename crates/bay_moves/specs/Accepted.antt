-- What survives of the accepted changes of a cartridge, and of the orders of a drive's reservations, through any list
-- of events and stops.
use Rattle.std.specs.Prelude.{◌≡◌, ◌+◌, ◌++◌, ℕ, List, [], ◌∷◌, Bool, true, false, Option, None, Some, flat_map, length, map}
use Rattle.scsi_lists.specs.declared.pr_lists.PrOut.{PrOut}
use Rattle.pr_core.specs.declared.states.PrAnswer.{PrAnswer}
use Rattle.pr_core.specs.declared.states.PrAnswer.TheVariants.{Good}
use Rattle.pr_core.specs.declared.states.PrState.{PrState}
use Rattle.pr_core.specs.Effects.{Effect}
use Rattle.pr_core.specs.Orders.{effect_of}
use Rattle.pr_core.specs.Sets.{nexuses}
use Rattle.pr_core.specs.States.{empty_state, power_loss}
use Rattle.gate_journal.specs.Side.{Heading}
use Rattle.accepted_changes.specs.Core.{Ack, AllStepTo, Core, CoreStep, IsCore, IsKept, IsPrefix, NoneRebases, Rebase, Rules, StepsTo}
use Rattle.aptpl_store.specs.Contents.{OpensAs}

-- what changes the reservations of a drive: an order of a host, or a loss of power (SPC-4, PERSISTENT RESERVE OUT,
-- persist through power loss)
pub data PrEvent : Type 0 where
  Ordered : (nexus : ℕ) → (order : PrOut) → PrEvent
  PowerLost : PrEvent

-- the state after an effect (own)
abbrev pub state_left : Effect → PrState
state_left effect = record {
  keys = map effect.keys nexuses;
  reservation = effect.reservation;
  aptpl = effect.aptpl;
  generation = effect.generation;
}

-- the reservations after an order, or after a loss of power (SPC-4, PERSISTENT RESERVE OUT, persist through power loss)
abbrev pub pr_after : PrState → PrEvent → PrState
pr_after state (Ordered nexus order) = state_left (effect_of state nexus order)
pr_after state PowerLost = power_loss state

-- the reservations after all of these, one after another (own)
abbrev pub pr_after_all : PrState → List PrEvent → PrState
pr_after_all state [] = state
pr_after_all state (event ∷ events) = pr_after_all (pr_after state event) events

-- the answer to an order is GOOD (own)
abbrev pub is_good : PrAnswer → Bool
is_good Good = true
is_good _ = false

-- an order with the answer GOOD counts, and every loss of power (own)
abbrev pub is_taken : PrState → PrEvent → Bool
is_taken state (Ordered nexus order) = is_good (effect_of state nexus order).answer
is_taken state PowerLost = true

-- A drive starts with no registration and no reservation, and accepts losses of power and the orders with the answer
-- GOOD, in order. An image of its store gives what a loss of power leaves of all these. The base never changes (own).
abbrev pub order_rules : Rules
order_rules = record {
  Base = Heading;
  Item = PrEvent;
  Image = List ℕ;
  applies = λ heading events event. is_taken (pr_after_all empty_state events) event;
  gives = λ heading events image. OpensAs heading (power_loss (pr_after_all empty_state events)) image;
  rebases = λ heading events other. ⊥;
}

-- the core of a drive whose reservations come from these orders and losses of power: exactly these are accepted, and
-- then the order whose save failed, if one did (own)
abbrev pub orders_core : Heading → List PrEvent → Option PrEvent → Core Heading PrEvent
orders_core heading events None =
    record {
      base = heading;
      accepted = events;
      stored = length events;
      safe = length events;
      fault = false;
      stuck = false;
      recovering = false;
    }
orders_core heading events (Some failed) =
    record {
      base = heading;
      accepted = events ++ failed ∷ [];
      stored = length events + 1;
      safe = length events;
      fault = true;
      stuck = false;
      recovering = false;
    }

module _ (rules : Rules) where
  -- For every list of events, each a list of steps: what was accepted at an acknowledgement, in whichever event, begins
  -- what is accepted at any later moment, inside an event too, whatever stops come between (own).
  abbrev pub StopsKeepAccepted : Type 0
  StopsKeepAccepted =
      (first acked last : Core rules.Base rules.Item) (events : List (List (CoreStep rules.Item)))
      (before after rest : List (CoreStep rules.Item))
      → flat_map (λ event. event) events ≡ before ++ (Ack ∷ after) ++ rest
      → IsCore first → AllStepTo rules first before acked → AllStepTo rules acked (Ack ∷ after) last
      → IsPrefix acked.accepted last.accepted

  -- Steps lead to a core with the old base, whose accepted items begin with those of the old core. Exactly its items go
  -- into the next base, and the other steps follow (own).
  pub record GoesIntoBase
      (old : Core rules.Base rules.Item) (steps rest : List (CoreStep rules.Item)) (new : Core rules.Base rules.Item)
      : Type 0 where
    pub mid : Core rules.Base rules.Item
    pub next : Core rules.Base rules.Item
    pub until : AllStepTo rules old steps mid
    pub base : mid.base ≡ old.base
    pub first : IsPrefix old.accepted mid.accepted
    pub into : StepsTo rules mid Rebase next
    pub behind : AllStepTo rules next rest new

  -- What was accepted in a core survives in the core that these steps lead to. Where no step changes the base, the base
  -- stays, and what was accepted begins what is accepted then. The items that go into the first new base begin with
  -- what was accepted (own).
  pub record KeepsThrough
      (old : Core rules.Base rules.Item) (steps : List (CoreStep rules.Item)) (new : Core rules.Base rules.Item)
      : Type 0 where
    pub kept : IsKept rules old.base old.accepted new.base new.accepted
    pub base : NoneRebases steps → new.base ≡ old.base
    pub first : NoneRebases steps → IsPrefix old.accepted new.accepted
    pub into :
        (until rest : List (CoreStep rules.Item)) → steps ≡ until ++ Rebase ∷ rest → NoneRebases until
        → GoesIntoBase old until rest new

  -- For every list of events and changes of base, each a list of steps: what was accepted at an acknowledgement, in
  -- whichever event, survives so at any later moment, inside an event too, whatever stops come between (own).
  abbrev pub StopsKeepThrough : Type 0
  StopsKeepThrough =
      (first acked last : Core rules.Base rules.Item) (events : List (List (CoreStep rules.Item)))
      (before after rest : List (CoreStep rules.Item))
      → flat_map (λ event. event) events ≡ before ++ (Ack ∷ after) ++ rest
      → IsCore first → AllStepTo rules first before acked → AllStepTo rules acked (Ack ∷ after) last
      → KeepsThrough acked after last
