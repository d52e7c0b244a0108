-- Each order has one outcome; a second loss of power changes nothing.
use Rattle.std.proofs.Common.{◌≡◌, ℕ, Bool, true, false, List, Option, None, refl, sym, ◌∙◌, ap, map}
use Rattle.std.specs.List.{range_with_len}
use Rattle.vtl_base.specs.declared.limits.TheConstants.{NEXUSES}
use Rattle.scsi_attention.specs.AttentionSets.{AttentionSet, no_attentions}
use Rattle.scsi_lists.specs.declared.pr_lists.PrOut.{PrOut}
use Rattle.pr_core.specs.declared.states.Reservation.{Reservation}
use Rattle.pr_core.specs.declared.states.PrState.{PrState}
use Rattle.pr_core.specs.declared.states.PrAnswer.{PrAnswer}
use Rattle.pr_core.specs.States.{power_loss}
use Rattle.pr_core.specs.Effects.{Effect, Brings}
use Rattle.pr_core.specs.Orders.{Orders, effect_of}
use Rattle.pr_core.specs.Saves.{AreSavedAlike}
use Rattle.pr_core.proofs.SetLemmas.{row_shows, same_rows}

-- a state by its fields
abbrev state_of : List (Option ℕ) → Option Reservation → Bool → ℕ → PrState
state_of keys reservation aptpl generation =
    record { keys = keys; reservation = reservation; aptpl = aptpl; generation = generation }

-- states with the same fields are the same
same_states :
    (one other : PrState) → one.keys ≡ other.keys → one.reservation ≡ other.reservation → one.aptpl ≡ other.aptpl
    → one.generation ≡ other.generation → one ≡ other
same_states one other keys reservation aptpl generation =
    ap (λ (row : List (Option ℕ)). state_of row one.reservation one.aptpl one.generation) keys
    ∙ (ap (λ (held : Option Reservation). state_of other.keys held one.aptpl one.generation) reservation
    ∙ (ap (λ (stays : Bool). state_of other.keys other.reservation stays one.generation) aptpl
    ∙ ap (λ (count : ℕ). state_of other.keys other.reservation other.aptpl count) generation))

pub one_end :
    (old : PrState) (nexus : ℕ) (order : PrOut) (answer other_answer : PrAnswer)
    (established other_established : List AttentionSet)
    (new other : PrState)
    → Orders old nexus order answer established new → Orders old nexus order other_answer other_established other
    → (answer ≡ other_answer) × (established ≡ other_established) × (new ≡ other)
one_end old nexus order answer other_answer established other_established new other first second = (
  first.answered ∙ sym second.answered,
  same_rows no_attentions established other_established (effect_of old nexus order).established first.establishes
      second.establishes,
  same_states new other
      (same_rows None new.keys other.keys (effect_of old nexus order).keys first.keys second.keys)
      (first.reservation ∙ sym second.reservation) (first.aptpl ∙ sym second.aptpl)
      (first.generation ∙ sym second.generation),
)

-- each effect has an answer, conditions and a next state
some_end :
    (effect : Effect)
    → (answer : PrAnswer) × (established : List AttentionSet) × (new : PrState) × Brings effect answer established new
some_end effect = (
  effect.answer,
  map effect.established (range_with_len 1 NEXUSES),
  state_of (map effect.keys (range_with_len 1 NEXUSES)) effect.reservation effect.aptpl effect.generation,
  record {
    answered = refl;
    keys = row_shows None effect.keys;
    reservation = refl;
    aptpl = refl;
    generation = refl;
    establishes = row_shows no_attentions effect.established;
  },
)

pub an_end :
    (old : PrState) (nexus : ℕ) (order : PrOut)
    → (answer : PrAnswer) × (established : List AttentionSet) × (new : PrState)
    × Orders old nexus order answer established new
an_end old nexus order = some_end (effect_of old nexus order)

-- a second loss of power of a state, by its fields
lost_once :
    (keys : List (Option ℕ)) (reservation : Option Reservation) (aptpl : Bool) (generation : ℕ)
    → power_loss (power_loss (state_of keys reservation aptpl generation))
    ≡ power_loss (state_of keys reservation aptpl generation)
lost_once keys reservation true generation = refl
lost_once keys reservation false generation = refl

pub loss_is_once : (state : PrState) → power_loss (power_loss state) ≡ power_loss state
loss_is_once state = lost_once state.keys state.reservation state.aptpl state.generation

-- the saved fields alone decide what a loss of power leaves
left_by_saved :
    (keys : List (Option ℕ)) (reservation : Option Reservation) (aptpl : Bool) (generation : ℕ)
    → power_loss (state_of keys reservation aptpl generation) ≡ power_loss (state_of keys reservation aptpl 0)
left_by_saved keys reservation true generation = refl
left_by_saved keys reservation false generation = refl

pub lost_alike : (one other : PrState) → AreSavedAlike one other → power_loss one ≡ power_loss other
lost_alike one other alike =
    left_by_saved one.keys one.reservation one.aptpl one.generation
    ∙ (ap (λ (row : List (Option ℕ)). power_loss (state_of row one.reservation one.aptpl 0)) alike.keys
    ∙ (ap (λ (held : Option Reservation). power_loss (state_of other.keys held one.aptpl 0)) alike.reservation
    ∙ (ap (λ (stays : Bool). power_loss (state_of other.keys other.reservation stays 0)) alike.aptpl
    ∙ sym (left_by_saved other.keys other.reservation other.aptpl other.generation))))
