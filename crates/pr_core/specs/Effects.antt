-- The effect of an order, as maps from nexuses.
use Rattle.std.specs.Prelude.{◌≡◌, ◌+◌, ◌%◌, ◌^◌, ◌==◌, ℕ, Bool, List, Option, None, Some, if◌then◌else◌}
use Rattle.scsi_attention.specs.declared.attention_sets.Attention.{Attention}
use Rattle.scsi_attention.specs.AttentionSets.{AttentionSet, no_attentions, with_attention}
use Rattle.pr_core.specs.declared.states.Reservation.{Reservation}
use Rattle.pr_core.specs.declared.states.PrState.{PrState}
use Rattle.pr_core.specs.declared.states.PrAnswer.{PrAnswer}
use Rattle.pr_core.specs.declared.states.PrAnswer.TheVariants.{Conflict}
use Rattle.pr_core.specs.Sets.{Nexuses, Shows}
use Rattle.pr_core.specs.States.{key_of, has_key}

-- what an order does: its answer, the next state, and the conditions that it establishes for each nexus (own)
pub record Effect : Type 0 where
  pub answer : PrAnswer
  pub keys : ℕ → Option ℕ
  pub reservation : Option Reservation
  pub aptpl : Bool
  pub generation : ℕ
  pub established : ℕ → AttentionSet

-- the answer, the conditions for each nexus and the next state are those of an effect (own)
pub record Brings (effect : Effect) (answer : PrAnswer) (established : List AttentionSet) (new : PrState) : Type 0 where
  pub answered : answer ≡ effect.answer
  pub keys : Shows None new.keys effect.keys
  pub reservation : new.reservation ≡ effect.reservation
  pub aptpl : new.aptpl ≡ effect.aptpl
  pub generation : new.generation ≡ effect.generation
  pub establishes : Shows no_attentions established effect.established

-- this unit attention condition and no other (own)
abbrev pub only : Attention → AttentionSet
only attention = with_attention attention no_attentions

-- no condition for any nexus (own)
abbrev pub establishes_none : ℕ → AttentionSet
establishes_none nexus = no_attentions

-- this condition for the nexuses of a set, and none for any other (own)
abbrev pub establishes : Nexuses → Attention → ℕ → AttentionSet
establishes set attention nexus = if set nexus then only attention else no_attentions

-- nothing changes, and no condition is established (SPC-4, PERSISTENT RESERVE OUT)
abbrev pub stays : PrAnswer → PrState → Effect
stays answer state = record {
  answer = answer;
  keys = key_of state;
  reservation = state.reservation;
  aptpl = state.aptpl;
  generation = state.generation;
  established = establishes_none;
}

-- the generation plus one; it wraps at 32 bits (SPC-4, PRGENERATION)
abbrev pub raised : ℕ → ℕ
raised generation = (generation + 1) % 2 ^ 32

-- the registrations without those of the removed nexuses (own)
abbrev pub keys_without : PrState → Nexuses → ℕ → Option ℕ
keys_without state removed nexus = if removed nexus then None else key_of state nexus

-- the registrations after a nexus is registered with a key (own)
abbrev pub with_key : PrState → ℕ → ℕ → ℕ → Option ℕ
with_key state nexus key other = if other == nexus then Some key else key_of state other

-- the effect of an order whose nexus must be registered with the key that it gives; else the order is a conflict
-- (SPC-4, RESERVE, RELEASE, CLEAR, PREEMPT)
abbrev pub of_registrant : PrState → ℕ → ℕ → Effect → Effect
of_registrant state nexus key effect = if has_key state key nexus then effect else stays Conflict state
