-- A state is spelled nexus by nexus.
use Rattle.std.proofs.Common.{◌≡◌, inl, inr, ◌≤◌, ◌<◌, ◌+◌, ◌-◌, ◌*◌, ◌++◌, ℕ, zero, suc, List, [], ◌∷◌, length, map, Option, None, Some, refl, sym, ◌∙◌, ap, subst, arith, append_assoc, length-append, add-one, sub-one}
use Rattle.std.specs.Prelude.{count_by, is_some, if◌then◌else◌}
use Rattle.std.specs.List.{All, range_with_len}
use Rattle.std.specs.Int.{to_be_bytes, w64}
use Rattle.std.proofs.Math.ListN.{get_or}
use Rattle.std.proofs.lemmas.List.{ext_get_or, get_or_past}
use Rattle.std.proofs.lemmas.List.Elements.{All-get_or}
use Rattle.std.proofs.lemmas.List.FromFn.{length-map-range_with_len, get_or-map-range_with_len}
use Rattle.std.proofs.lemmas.List.Sums.{count_by-le-length, sum_by-cons}
use Rattle.std.proofs.lemmas.Bool.{cases_lt}
use Rattle.vtl_base.specs.declared.limits.TheConstants.{NEXUSES}
use Rattle.pr_core.specs.declared.states.PrState.{PrState}
use Rattle.pr_core.specs.Keepers.{state_frame_size}
use Rattle.pr_core.specs.States.{key_of}
use Rattle.aptpl_store.specs.Spelling.{IsKey, registration, registrations, spell_state}
use Rattle.aptpl_store.specs.Inner.Decoded.{nexuses_from, registrations_of}

-- the nexuses from one on are that one and those from the next on
pub nexuses_more : (nexus : ℕ) → nexus ≤ 64 → nexuses_from nexus ≡ nexus ∷ nexuses_from (nexus + 1)
unfolding nexuses_from
nexuses_more nexus few =
    let more : 65 - nexus ≡ suc (65 - (nexus + 1)) = omega arith in
    ap (range_with_len nexus) more

pub nexuses_none : nexuses_from 65 ≡ []
unfolding nexuses_from
nexuses_none = refl

-- the registrations of a nexus and of later ones
pub registrations_more : (state : PrState) (nexus : ℕ) (later : List ℕ)
    → registrations_of state (nexus ∷ later) ≡ registration (key_of state nexus) nexus ++ registrations_of state later
unfolding registrations_of
registrations_more state nexus later = refl

pub registrations_none : (state : PrState) → registrations_of state [] ≡ []
unfolding registrations_of
registrations_none state = refl

-- the registrations of all nexuses are those of the state
pub registrations_all : (state : PrState) → registrations state ≡ registrations_of state (nexuses_from 1)
unfolding registrations registrations_of nexuses_from
registrations_all state = refl

-- the generation is not spelled
pub registrations_alike : (state : PrState) (generation : ℕ)
    → registrations (record state { generation = generation }) ≡ registrations state
unfolding registrations
registrations_alike state generation = refl

-- the entry of a nexus is at the place before its number
pub key_at : (state : PrState) (nexus : ℕ) → 1 ≤ nexus → key_of state nexus ≡ get_or state.keys (nexus - 1) None
key_at state zero is = absurd (omega arith)
key_at state (suc place) is = rw sub-one refl

-- each key of a state has eight bytes
pub keys_fit : (state : PrState) → All IsKey state.keys → (nexus : ℕ) → IsKey (key_of state nexus)
keys_fit state fit zero = tt
keys_fit state fit (suc place) =
    elim (cases_lt place (length state.keys)) [
      | inl within ↦ All-get_or IsKey state.keys place None within fit
      | inr past ↦ subst IsKey (sym (get_or_past state.keys place None past)) tt
    ]

-- the keys of a state are those of all nexuses
pub keys_are : (state : PrState) → length state.keys ≡ NEXUSES → map (key_of state) (nexuses_from 1) ≡ state.keys
unfolding nexuses_from
keys_are state long =
    ext_get_or None (map (key_of state) (range_with_len 1 64)) state.keys
    (length-map-range_with_len (key_of state) 1 64 ∙ sym long)
    (λ place within.
    let inside : place < 64 =
    subst (λ (n : ℕ). place < n) (length-map-range_with_len (key_of state) 1 64) within in
    get_or-map-range_with_len (key_of state) 1 64 place (place + 1) None inside (omega arith)
    ∙ (rw add-one refl))

-- one nexus more
pub spelled_more : (state : PrState) (nexus : ℕ) (done all : List ℕ) → 1 ≤ nexus → nexus ≤ 64
    → done ++ registrations_of state (nexuses_from nexus) ≡ all
    → (done ++ registration (get_or state.keys (nexus - 1) None) nexus)
    ++ registrations_of state (nexuses_from (nexus + 1)) ≡ all
spelled_more state nexus done all some few so_far =
    let later = registrations_of state (nexuses_from (nexus + 1)) in
    append_assoc done (registration (get_or state.keys (nexus - 1) None) nexus) later
    ∙ ap (λ (l : List ℕ). done ++ l)
    (sym (ap (registrations_of state) (nexuses_more nexus few)
    ∙ registrations_more state nexus (nexuses_from (nexus + 1))
    ∙ ap (λ (key : Option ℕ). registration key nexus ++ later) (key_at state nexus some)))
    ∙ so_far

-- a registration has at most nine bytes
pub registration_short : (key : Option ℕ) (nexus : ℕ) → length (registration key nexus) ≤ 9
registration_short None nexus = omega arith
registration_short (Some key) nexus = omega arith

-- nine bytes for each registered nexus
counted_of : (state : PrState) (some : List ℕ)
    → length (registrations_of state some) ≡ 9 * count_by is_some (map (key_of state) some)
counted_of state [] = ap (λ (l : List ℕ). length l) (registrations_none state)
counted_of state (nexus ∷ later) =
    ap (λ (l : List ℕ). length l) (registrations_more state nexus later)
    ∙ by (key_of state nexus) (counted_of state later)
  where
    by : (key : Option ℕ)
        → length (registrations_of state later) ≡ 9 * count_by is_some (map (key_of state) later)
        → length (registration key nexus ++ registrations_of state later)
        ≡ 9 * count_by is_some (key ∷ map (key_of state) later)
    by None rest = rest
    by (Some key) rest =
        let here : length ((nexus ∷ to_be_bytes w64 key) ++ registrations_of state later)
        ≡ 9 + length (registrations_of state later) =
        length-append (nexus ∷ to_be_bytes w64 key) (registrations_of state later) in
        let one : count_by is_some (Some key ∷ map (key_of state) later)
        ≡ 1 + count_by is_some (map (key_of state) later) =
        sum_by-cons (λ (k : Option ℕ). if is_some k then 1 else 0) (Some key) (map (key_of state) later) in
        omega (arith, here, rest, one)

-- a state has four bytes, and nine for each registration
pub spelling_length : (state : PrState) → length state.keys ≡ NEXUSES
    → length (spell_state state) ≡ 4 + 9 * count_by is_some state.keys
spelling_length state long =
    let all : length (registrations state) ≡ 9 * count_by is_some state.keys =
    ap (λ (l : List ℕ). length l) (registrations_all state)
    ∙ counted_of state (nexuses_from 1)
    ∙ ap (λ (l : List (Option ℕ)). 9 * count_by is_some l) (keys_are state long) in
    omega (arith, all)

-- and at most 580
pub spelling_short : (state : PrState) → length state.keys ≡ NEXUSES → length (spell_state state) ≤ 580
spelling_short state long =
    omega (arith, spelling_length state long, count_by-le-length is_some state.keys, long)

-- with gate and length it takes five bytes more
pub spelling_frame : (state : PrState) → length state.keys ≡ NEXUSES
    → length (spell_state state) + 5 ≡ state_frame_size state
spelling_frame state long = omega (arith, spelling_length state long)
