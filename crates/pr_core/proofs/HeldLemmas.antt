-- The rules of a state, for registrations as a map and for a reservation.
use Rattle.std.proofs.Common.{◌≡◌, ◌≤◌, ◌==◌, ◌&&◌, ℕ, zero, suc, Bool, true, false, List, length, Option, None, Some, is_some, is_none, refl, sym, ◌∙◌, ap, subst, inl, inr, arith, if◌then◌else◌}
use Rattle.std.proofs.lemmas.Bool.{and_from, and_parts, cases_lt, false≢true}
use Rattle.std.proofs.lemmas.List.{get_or_past}
use Rattle.vtl_base.specs.declared.limits.TheConstants.{NEXUSES}
use Rattle.scsi_attention.specs.AttentionSets.{AttentionSet}
use Rattle.pr_core.specs.declared.states.Reservation.{Reservation}
use Rattle.pr_core.specs.declared.states.PrState.{PrState}
use Rattle.pr_core.specs.declared.states.PrAnswer.{PrAnswer}
use Rattle.pr_core.specs.Sets.{IsNexus, is_named_in, is_some_in}
use Rattle.pr_core.specs.States.{has_key, is_for_all, is_number, is_registered, key_of}
use Rattle.pr_core.specs.Sound.{IsSound, is_held_rightly}
use Rattle.pr_core.specs.Effects.{Brings, Effect, stays}
use Rattle.pr_core.proofs.SetLemmas.{nobody_in, none_in, some_in, who_in}

-- some nexus is registered
abbrev pub SomeRegistered : (ℕ → Option ℕ) → Type 0
SomeRegistered keys = (nexus : ℕ) × IsNexus nexus × (is_some (keys nexus) ≡ true)

-- the holder of a reservation is valid, where all registered nexuses hold it, or one
abbrev pub HeldAs : Bool → (ℕ → Option ℕ) → Option ℕ → Type 0
HeldAs true keys holder = (holder ≡ None) × SomeRegistered keys
HeldAs false keys holder = (nexus : ℕ) × IsNexus nexus × (holder ≡ Some nexus) × (is_some (keys nexus) ≡ true)

-- the holder of the reservation, if there is one, is valid
abbrev pub Held : (ℕ → Option ℕ) → Option Reservation → Type 0
Held keys None = Unit {0}
Held keys (Some held) = HeldAs (is_for_all held.kind) keys held.holder

-- registrations and reservation meet the rules
pub record Keeps (keys : ℕ → Option ℕ) (reservation : Option Reservation) : Type 0 where
  pub no_zero : (nexus : ℕ) → IsNexus nexus → is_number (keys nexus) 0 ≡ false
  pub held : Held keys reservation

-- the effect of an order meets the rules
abbrev pub Kept : Effect → Type 0
Kept effect = Keeps effect.keys effect.reservation

-- a registered number is a nexus
pub registered_is_nexus :
    (state : PrState) (nexus : ℕ) → length state.keys ≡ NEXUSES → is_registered state nexus ≡ true → IsNexus nexus
registered_is_nexus state zero long registered = absurd (false≢true registered)
registered_is_nexus state (suc place) long registered =
    elim (cases_lt place NEXUSES) [
      | inl within ↦ (omega arith, omega arith)
      | inr behind ↦
          let past : length state.keys ≤ place = subst (λ (n : ℕ). n ≤ place) (sym long) behind in
          absurd (false≢true (sym (ap is_some (get_or_past state.keys place None past)) ∙ registered))
    ]

pub none_is : (holder : Option ℕ) → is_none holder ≡ true → holder ≡ None
none_is None is = refl
none_is (Some nexus) is = absurd (false≢true is)

pub held_as_from :
    (all : Bool) (state : PrState) (holder : Option ℕ) → length state.keys ≡ NEXUSES
    → (if all then is_none holder && is_some_in (is_registered state)
    else is_named_in holder (is_registered state)) ≡ true
    → HeldAs all (key_of state) holder
held_as_from true state holder long right =
    let parts = and_parts (is_none holder) (is_some_in (is_registered state)) right in
    (none_is holder parts.0, who_in (is_registered state) parts.1)
held_as_from false state None long right = absurd (false≢true right)
held_as_from false state (Some nexus) long right =
    (nexus, registered_is_nexus state nexus long right, refl, right)

pub held_from :
    (state : PrState) (reservation : Option Reservation) → length state.keys ≡ NEXUSES
    → is_held_rightly reservation state ≡ true → Held (key_of state) reservation
held_from state None long right = tt
held_from state (Some held) long right = held_as_from (is_for_all held.kind) state held.holder long right

-- a sound state meets the rules
pub from_sound : (state : PrState) → IsSound state → Keeps (key_of state) state.reservation
from_sound state sound = record {
  no_zero = nobody_in (has_key state 0) sound.keys;
  held = held_from state state.reservation sound.all sound.held;
}

pub held_as_of :
    (all : Bool) (new : PrState) (keys : ℕ → Option ℕ) (holder : Option ℕ)
    → ((nexus : ℕ) → IsNexus nexus → key_of new nexus ≡ keys nexus) → HeldAs all keys holder
    → (if all then is_none holder && is_some_in (is_registered new) else is_named_in holder (is_registered new)) ≡ true
held_as_of true new keys holder same held =
    and_from (is_none holder) (is_some_in (is_registered new)) (ap is_none held.0)
    (some_in (is_registered new) held.1.0 held.1.1 (ap is_some (same held.1.0 held.1.1) ∙ held.1.2))
held_as_of false new keys holder same held =
    ap (λ (named : Option ℕ). is_named_in named (is_registered new)) held.2
    ∙ (ap is_some (same held.0 held.1) ∙ held.3)

pub held_of :
    (new : PrState) (keys : ℕ → Option ℕ) (reservation : Option Reservation)
    → ((nexus : ℕ) → IsNexus nexus → key_of new nexus ≡ keys nexus) → Held keys reservation
    → is_held_rightly reservation new ≡ true
held_of new keys None same held = refl
held_of new keys (Some made) same held = held_as_of (is_for_all made.kind) new keys made.holder same held

-- the next state of an effect that meets the rules is sound
pub sound_of :
    (effect : Effect) (answer : PrAnswer) (established : List AttentionSet) (new : PrState)
    → Kept effect → Brings effect answer established new → IsSound new
sound_of effect answer established new kept brings = record {
  all = brings.keys.all;
  keys =
      none_in (has_key new 0) (λ nexus is.
      ap (λ (key : Option ℕ). is_number key 0) (brings.keys.each nexus is) ∙ kept.no_zero nexus is);
  held =
      subst (λ (made : Option Reservation). is_held_rightly made new ≡ true) (sym brings.reservation)
      (held_of new effect.keys effect.reservation brings.keys.each kept.held);
}

-- one of two effects, chosen by a test
pub choose :
    (test : Bool) (one other : Effect) → (test ≡ true → Kept one) → (test ≡ false → Kept other)
    → Kept (if test then one else other)
choose true one other first second = first refl
choose false one other first second = second refl

pub number_is_some : (key : Option ℕ) (number : ℕ) → is_number key number ≡ true → is_some key ≡ true
number_is_some None number is = is
number_is_some (Some one) number is = refl

-- the registrations that stay have no key 0
pub left_no_zero :
    (removed : Bool) (key : Option ℕ) → is_number key 0 ≡ false → is_number (if removed then None else key) 0 ≡ false
left_no_zero true key is = refl
left_no_zero false key is = is

pub left_some :
    (removed : Bool) (key : Option ℕ) → removed ≡ false → is_some key ≡ true
    → is_some (if removed then None else key) ≡ true
left_some true key stays is = absurd (false≢true (sym stays))
left_some false key stays is = is

-- one more registration adds no key 0
pub more_no_zero :
    (same : Bool) (key : ℕ) (old : Option ℕ) → (key == 0) ≡ false → is_number old 0 ≡ false
    → is_number (if same then Some key else old) 0 ≡ false
more_no_zero true key old not_zero is = not_zero
more_no_zero false key old not_zero is = is

pub more_some :
    (same : Bool) (key : ℕ) (old : Option ℕ) → is_some old ≡ true
    → is_some (if same then Some key else old) ≡ true
more_some true key old is = refl
more_some false key old is = is

pub held_as_more :
    (all : Bool) (keys more : ℕ → Option ℕ) (holder : Option ℕ)
    → ((nexus : ℕ) → is_some (keys nexus) ≡ true → is_some (more nexus) ≡ true) → HeldAs all keys holder
    → HeldAs all more holder
held_as_more true keys more holder grows held = (held.0, (held.1.0, held.1.1, grows held.1.0 held.1.2))
held_as_more false keys more holder grows held = (held.0, held.1, held.2, grows held.0 held.3)

pub held_more :
    (keys more : ℕ → Option ℕ) (reservation : Option Reservation)
    → ((nexus : ℕ) → is_some (keys nexus) ≡ true → is_some (more nexus) ≡ true) → Held keys reservation
    → Held more reservation
held_more keys more None grows held = tt
held_more keys more (Some made) grows held = held_as_more (is_for_all made.kind) keys more made.holder grows held
