-- It is decidable whether bytes spell a state: only the one that is read from them, and only if they are its spelling.
use Rattle.std.proofs.Common.{◌≡◌, ◌⊎◌, inl, inr, ℕ, ◌<◌, ◌≤◌, List, [], ◌∷◌, length, Bool, true, false, Option, None, Some, refl, sym, subst, arith}
use Rattle.std.specs.Prelude.{◌^◌}
use Rattle.std.specs.List.{All}
use Rattle.std.proofs.lemmas.Bool.{cases_Bool, cases_eq, cases_lt, both_ways}
use Rattle.std.proofs.lemmas.List.Elements.{All-cons, All-head, All-nil, All-tail}
use Rattle.vtl_base.specs.declared.limits.TheConstants.{NEXUSES}
use Rattle.pr_core.specs.declared.states.PrState.{PrState}
use Rattle.pr_core.specs.Sets.{is_some_in}
use Rattle.pr_core.specs.Sound.{is_held_rightly}
use Rattle.pr_core.specs.States.{has_key}
use Rattle.aptpl_store.specs.Spelling.{IsKey, IsSavable, SpellsState, spell_state}
use Rattle.aptpl_store.specs.Inner.Decoded.{state_decoded}
use Rattle.aptpl_store.proofs.DecodingLemmas.{decoded_again, decoded_sound, decoded_spelled}

-- it holds, or it does not
abbrev Decided : Type 0 → Type 0
Decided P = P ⊎ (P → ⊥)

is_true : (b : Bool) → Decided (b ≡ true)
is_true true = inl refl
is_true false = inr (λ e. absurd (cc))

same_bytes : (xs ys : List ℕ) → Decided (xs ≡ ys)
same_bytes [] [] = inl refl
same_bytes (x ∷ xs) [] = inr (λ e. absurd (cc))
same_bytes [] (y ∷ ys) = inr (λ e. absurd (cc))
same_bytes (x ∷ xs) (y ∷ ys) = by (cases_eq x y) (same_bytes xs ys)
  where
    by : (x ≡ y) ⊎ (x ≡ y → ⊥) → Decided (xs ≡ ys) → Decided (x ∷ xs ≡ y ∷ ys)
    by (inl first) (inl rest) = inl (λ i. first i ∷ rest i)
    by (inl first) (inr never) = inr (λ e. never (cc))
    by (inr never) rest = inr (λ e. never (cc))

is_key : (key : Option ℕ) → Decided (IsKey key)
is_key None = inl tt
is_key (Some key) = by (cases_lt key (2 ^ 64))
  where
    by : (key < 2 ^ 64) ⊎ (2 ^ 64 ≤ key) → Decided (key < 2 ^ 64)
    by (inl less) = inl less
    by (inr more) = inr (λ less. omega (arith, less, more))

are_keys : (keys : List (Option ℕ)) → Decided (All IsKey keys)
are_keys [] = inl (All-nil IsKey)
are_keys (key ∷ keys) = by (is_key key) (are_keys keys)
  where
    by : Decided (IsKey key) → Decided (All IsKey keys) → Decided (All IsKey (key ∷ keys))
    by (inl first) (inl rest) = inl (All-cons IsKey key keys first rest)
    by (inl first) (inr never) = inr (λ all. never (All-tail IsKey key keys all))
    by (inr never) rest = inr (λ all. never (All-head IsKey key keys all))

-- a state can be spelled, or not
is_savable : (state : PrState) → Decided (IsSavable state)
is_savable state =
    by (cases_eq (length state.keys) NEXUSES) (cases_Bool (is_some_in (has_key state 0)))
    (is_true (is_held_rightly state.reservation state)) (are_keys state.keys)
  where
    by : (length state.keys ≡ NEXUSES) ⊎ (length state.keys ≡ NEXUSES → ⊥)
        → (is_some_in (has_key state 0) ≡ true) ⊎ (is_some_in (has_key state 0) ≡ false)
        → Decided (is_held_rightly state.reservation state ≡ true) → Decided (All IsKey state.keys)
        → Decided (IsSavable state)
    by (inl all) (inr none) (inl held) (inl keys) =
        inl (record { sound = record { all = all; keys = none; held = held }; keys = keys })
    by (inr never) any held keys = inr (λ is. never is.sound.all)
    by (inl all) (inl some) held keys = inr (λ is. both_ways (is_some_in (has_key state 0)) is.sound.keys some)
    by (inl all) (inr none) (inr never) keys = inr (λ is. never is.sound.held)
    by (inl all) (inr none) (inl held) (inr never) = inr (λ is. never is.keys)

-- the state that is read from bytes is the one that they spell, if they spell any
decoded_savable : (state : PrState) (body : List ℕ) → SpellsState state body → IsSavable (state_decoded body)
decoded_savable state body spells = record {
  sound = decoded_sound state body spells;
  keys =
      subst (λ (s : PrState). All IsKey s.keys) (sym (decoded_again state body spells)) spells.savable.keys;
}

pub spelled_or_not : (body : List ℕ)
    → ((state : PrState) × SpellsState state body) ⊎ ((state : PrState) → SpellsState state body → ⊥)
spelled_or_not body = by (is_savable (state_decoded body)) (same_bytes body (spell_state (state_decoded body)))
  where
    by : Decided (IsSavable (state_decoded body)) → Decided (body ≡ spell_state (state_decoded body))
        → ((state : PrState) × SpellsState state body) ⊎ ((state : PrState) → SpellsState state body → ⊥)
    by (inl savable) (inl bytes) = inl (state_decoded body, record { savable = savable; bytes = bytes })
    by (inr never) same = inr (λ state spells. never (decoded_savable state body spells))
    by (inl savable) (inr never) = inr (λ state spells. never (sym (decoded_spelled state body spells)))
