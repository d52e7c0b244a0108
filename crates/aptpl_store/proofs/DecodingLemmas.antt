-- The state that is read from its spelling is that state, except for the generation.
use Rattle.std.proofs.Common.{◌≡◌, ◌⊎◌, inl, inr, ◌≤◌, ◌<◌, ◌+◌, ◌-◌, ◌++◌, ◌^◌, ℕ, zero, suc, List, [], ◌∷◌, length, map, drop, Bool, true, false, Option, None, Some, refl, sym, ◌∙◌, ap, subst, arith, length-append, eqb, eq-eqb, leb}
use Rattle.std.specs.Prelude.{◌&&◌, IfNone, count_by, is_some, is_none, slice_index, slice_index_or, unwrap_or, if◌then◌else◌, ◌==◌}
use Rattle.std.specs.Cmp.Lexicographic.{pointwise}
use Rattle.std.specs.List.{All, range_with_len}
use Rattle.std.specs.Int.{to_be_bytes, w64}
use Rattle.std.proofs.lemmas.Bool.{and_from, cases_lt, false≢true, le-leb, ne_eqb}
use Rattle.std.proofs.Math.ListN.{get_or, set}
use Rattle.std.proofs.Math.Seq.{drop-cons}
use Rattle.std.proofs.lemmas.List.{get_or-set_other, get_or-set_same, get_or_past}
use Rattle.std.proofs.lemmas.List.Elements.{All-cons, All-head, All-nil, All-tail}
use Rattle.std.proofs.lemmas.List.FromFn.{length-range_with_len}
use Rattle.byteorder.specs.Endian.{big_number}
use Rattle.byteorder.specs.Numbers.{big_number-reads_back}
use Rattle.vtl_base.specs.declared.limits.TheConstants.{NEXUSES}
use Rattle.scsi_lists.specs.declared.actions.PrType.{PrType}
use Rattle.scsi_lists.specs.declared.actions.PrType.TheVariants.{WriteExclusive, ExclusiveAccess, WriteExclusiveRegistrantsOnly, ExclusiveAccessRegistrantsOnly, WriteExclusiveAllRegistrants, ExclusiveAccessAllRegistrants}
use Rattle.scsi_lists.specs.Actions.{type_number, type_of}
use Rattle.pr_core.specs.declared.states.Reservation.{Reservation}
use Rattle.pr_core.specs.declared.states.PrState.{PrState}
use Rattle.pr_core.specs.Saves.{AreSavedAlike}
use Rattle.pr_core.specs.Sets.{is_named_in, is_some_in}
use Rattle.pr_core.specs.Sound.{IsSound, is_held_rightly}
use Rattle.pr_core.specs.States.{is_for_all, is_registered, key_of}
use Rattle.aptpl_store.specs.Spelling.{IsKey, IsSavable, SpellsState, aptpl_byte, holder_byte, registration, registrations, spell_state, type_byte}
use Rattle.aptpl_store.specs.Inner.Decoded.{begins_with, behind, held_decoded, key_decoded, keys_decoded, nexus_decoded, nexuses_from, registrations_of, state_decoded}
use Rattle.aptpl_store.proofs.SpellingLemmas.{keys_are, keys_fit, nexuses_more, registrations_alike, registrations_all, registrations_more, registrations_none}

-- the key of a nexus and of later ones
pub keys_more : (nexus : ℕ) (later bytes : List ℕ)
    → keys_decoded (nexus ∷ later) bytes ≡ key_decoded nexus bytes ∷ keys_decoded later (behind nexus bytes)
unfolding keys_decoded
keys_more nexus later bytes = refl

pub keys_none : (bytes : List ℕ) → keys_decoded [] bytes ≡ []
unfolding keys_decoded
keys_none bytes = refl

-- as many as there are nexuses
keys_length : (some bytes : List ℕ) → length (keys_decoded some bytes) ≡ length some
keys_length [] bytes = ap (λ (l : List (Option ℕ)). length l) (keys_none bytes)
keys_length (nexus ∷ later) bytes =
    ap (λ (l : List (Option ℕ)). length l) (keys_more nexus later bytes)
    ∙ ap suc (keys_length later (behind nexus bytes))

pub keys_are_64 : (bytes : List ℕ) → length (keys_decoded (nexuses_from 1) bytes) ≡ 64
unfolding nexuses_from
keys_are_64 bytes = keys_length (range_with_len 1 64) bytes ∙ length-range_with_len 1 64

-- nexuses by rising number
abbrev IsRising : List ℕ → Type 0
IsRising [] = Unit {0}
IsRising (nexus ∷ later) = All (λ other. nexus < other) later × IsRising later

all_above : (low from count : ℕ) → low < from → All (λ other. low < other) (range_with_len from count)
all_above low from zero less = All-nil (λ other. low < other)
all_above low from (suc count) less =
    All-cons (λ other. low < other) from (range_with_len (from + 1) count) less
    (all_above low (from + 1) count (omega (arith, less)))

rising : (from count : ℕ) → IsRising (range_with_len from count)
rising from zero = tt
rising from (suc count) = (all_above from (from + 1) count (omega arith), rising (from + 1) count)

-- if the registrations of later nexuses begin with any, it is one of these
first_above : (state : PrState) (low : ℕ) (later : List ℕ) → All (λ other. low < other) later
    → (registrations_of state later ≡ []) ⊎ (low < slice_index (registrations_of state later) 0)
first_above state low [] all = inl (registrations_none state)
first_above state low (nexus ∷ later) all =
    by (key_of state nexus) refl (first_above state low later (All-tail (λ other. low < other) nexus later all))
  where
    by : (key : Option ℕ) → key_of state nexus ≡ key
        → (registrations_of state later ≡ []) ⊎ (low < slice_index (registrations_of state later) 0)
        → (registrations_of state (nexus ∷ later) ≡ [])
        ⊎ (low < slice_index (registrations_of state (nexus ∷ later)) 0)
    by None is rest =
        subst (λ (l : List ℕ). (l ≡ []) ⊎ (low < slice_index l 0))
        (sym (registrations_more state nexus later
        ∙ ap (λ (k : Option ℕ). registration k nexus ++ registrations_of state later) is)) rest
    by (Some key) is rest =
        inr (subst (λ (l : List ℕ). low < slice_index l 0)
        (sym (registrations_more state nexus later
        ∙ ap (λ (k : Option ℕ). registration k nexus ++ registrations_of state later) is))
        (All-head (λ other. low < other) nexus later all))

-- bytes that do not begin with a nexus
decoded_none : (nexus : ℕ) (later bytes : List ℕ) → begins_with nexus bytes ≡ false
    → keys_decoded (nexus ∷ later) bytes ≡ None ∷ keys_decoded later bytes
decoded_none nexus later bytes not =
    keys_more nexus later bytes
    ∙ (λ i. (if not i then Some (big_number 8 (drop 1 bytes)) else None)
    ∷ keys_decoded later (if not i then drop 9 bytes else bytes))

not_begun : (nexus : ℕ) (bytes : List ℕ) → (bytes ≡ []) ⊎ (nexus < slice_index bytes 0)
    → begins_with nexus bytes ≡ false
not_begun nexus bytes (inl none) = ap (begins_with nexus) none
not_begun nexus bytes (inr above) =
    by (leb 9 (length bytes)) (ne_eqb (slice_index bytes 0) nexus (λ e. omega (arith, e, above)))
  where
    by : (long : Bool) → eqb (slice_index bytes 0) nexus ≡ false → (long && eqb (slice_index bytes 0) nexus) ≡ false
    by true other = other
    by false other = refl

-- bytes that begin with the registration of a nexus
decoded_some : (nexus key : ℕ) (later rest : List ℕ) → key < 2 ^ 64
    → keys_decoded (nexus ∷ later) (registration (Some key) nexus ++ rest) ≡ Some key ∷ keys_decoded later rest
decoded_some nexus key later rest fits =
    let bytes : List ℕ = registration (Some key) nexus ++ rest in
    let long : 9 ≤ length bytes = omega (arith, length-append (nexus ∷ to_be_bytes w64 key) rest) in
    let begun : begins_with nexus bytes ≡ true =
    and_from (leb 9 (length bytes)) (eqb nexus nexus) (le-leb 9 (length bytes) long) (eq-eqb nexus nexus refl) in
    keys_more nexus later bytes
    ∙ (λ i. (if begun i then Some (big_number 8 (drop 1 bytes)) else None)
    ∷ keys_decoded later (if begun i then drop 9 bytes else bytes))
    ∙ ap (λ (k : ℕ). Some k ∷ keys_decoded later rest) (big_number-reads_back 8 key rest fits)

-- the registrations of nexuses give their keys
keys_again : (state : PrState) → All IsKey state.keys → (some : List ℕ) → IsRising some
    → keys_decoded some (registrations_of state some) ≡ map (key_of state) some
keys_again state fit [] rises = keys_none (registrations_of state [])
keys_again state fit (nexus ∷ later) rises =
    ap (keys_decoded (nexus ∷ later)) (registrations_more state nexus later)
    ∙ by (key_of state nexus) (keys_fit state fit nexus) (keys_again state fit later rises.1)
  where
    by : (key : Option ℕ) → IsKey key
        → keys_decoded later (registrations_of state later) ≡ map (key_of state) later
        → keys_decoded (nexus ∷ later) (registration key nexus ++ registrations_of state later)
        ≡ key ∷ map (key_of state) later
    by None fits rest =
        decoded_none nexus later (registrations_of state later)
        (not_begun nexus (registrations_of state later) (first_above state nexus later rises.0))
        ∙ ap (λ (l : List (Option ℕ)). None ∷ l) rest
    by (Some key) fits rest =
        decoded_some nexus key later (registrations_of state later) fits
        ∙ ap (λ (l : List (Option ℕ)). Some key ∷ l) rest

all_keys_again : (state : PrState) → IsSavable state → keys_decoded (nexuses_from 1) (registrations state) ≡ state.keys
unfolding nexuses_from
all_keys_again state is =
    ap (keys_decoded (nexuses_from 1)) (registrations_all state)
    ∙ keys_again state is.keys (range_with_len 1 64) (rising 1 64)
    ∙ keys_are state is.sound.all

-- the number of a type gives the type
type_decoded : (kind : PrType) → type_of (type_number kind) ≡ Some kind
type_decoded WriteExclusive = refl
type_decoded ExclusiveAccess = refl
type_decoded WriteExclusiveRegistrantsOnly = refl
type_decoded ExclusiveAccessRegistrantsOnly = refl
type_decoded WriteExclusiveAllRegistrants = refl
type_decoded ExclusiveAccessAllRegistrants = refl

-- a registered number is a nexus
decoded_registered : (state : PrState) (nexus : ℕ) → length state.keys ≡ NEXUSES → is_registered state nexus ≡ true
    → nexus_decoded nexus ≡ Some nexus
decoded_registered state zero long registered = absurd (false≢true registered)
decoded_registered state (suc place) long registered =
    elim (cases_lt place NEXUSES) [
      | inl within ↦
          let is : (leb 1 (suc place) && leb (suc place) 64) ≡ true =
          and_from (leb 1 (suc place)) (leb (suc place) 64) (le-leb 1 (suc place) (omega arith))
          (le-leb (suc place) 64 (omega arith)) in
          (λ i. if is i then Some (suc place) else None)
      | inr past ↦
          let none : slice_index_or state.keys place None ≡ None =
          get_or_past state.keys place None (subst (λ (n : ℕ). n ≤ place) (sym long) past) in
          absurd (false≢true (sym (ap is_some none) ∙ registered))
    ]

-- the holder of a reservation, which is valid
holder_decoded : (state : PrState) (kind : PrType) (holder : Option ℕ) → length state.keys ≡ NEXUSES
    → is_held_rightly (Some (record { kind = kind; holder = holder })) state ≡ true
    → nexus_decoded (unwrap_or holder 0) ≡ holder
holder_decoded state kind None long right = refl
holder_decoded state kind (Some nexus) long right = by (is_for_all kind) right
  where
    by : (all : Bool)
        → (if all then is_none (Some nexus) && is_some_in (is_registered state)
        else is_named_in (Some nexus) (is_registered state)) ≡ true
        → nexus_decoded nexus ≡ Some nexus
    by true right = absurd (false≢true right)
    by false right = decoded_registered state nexus long right

reservation_decoded : (state : PrState) (reservation : Option Reservation) → length state.keys ≡ NEXUSES
    → is_held_rightly reservation state ≡ true
    → held_decoded (type_of (type_byte reservation)) (nexus_decoded (holder_byte reservation)) ≡ reservation
reservation_decoded state None long right = refl
reservation_decoded state (Some held) long right =
    λ i. held_decoded (type_decoded held.kind i) (holder_decoded state held.kind held.holder long right i)

aptpl_decoded : (aptpl : Bool) → (aptpl_byte aptpl == 1) ≡ aptpl
aptpl_decoded true = refl
aptpl_decoded false = refl

-- the state that is read from its spelling is the state, except for the generation
pub decoded_again : (state : PrState) (body : List ℕ) → SpellsState state body
    → state_decoded body ≡ record state { generation = 0 }
decoded_again state body spells =
    let is = spells.savable in
    ap state_decoded spells.bytes
    ∙ (λ i. record {
      keys = all_keys_again state is i;
      reservation = reservation_decoded state state.reservation is.sound.all is.sound.held i;
      aptpl = aptpl_decoded state.aptpl i;
      generation = 0;
    })

-- bytes spell at most one state, except for the generation
pub one_state : (body : List ℕ) (one other : PrState) → SpellsState one body → SpellsState other body
    → AreSavedAlike one other
one_state body one other first second =
    let same : record one { generation = 0 } ≡ record other { generation = 0 } =
    sym (decoded_again one body first) ∙ decoded_again other body second in
    record {
      keys = ap (λ (s : PrState). s.keys) same;
      reservation = ap (λ (s : PrState). s.reservation) same;
      aptpl = ap (λ (s : PrState). s.aptpl) same;
    }

-- the generation has no part in whether the holder is valid
held_alike : (state : PrState) (generation : ℕ) (reservation : Option Reservation)
    → is_held_rightly reservation state ≡ true
    → is_held_rightly reservation (record state { generation = generation }) ≡ true
held_alike state generation None right = right
held_alike state generation (Some held) right = right

-- the state that was read meets the rules
pub decoded_sound : (state : PrState) (body : List ℕ) → SpellsState state body → IsSound (state_decoded body)
decoded_sound state body spells =
    let is = spells.savable.sound in
    subst IsSound (sym (decoded_again state body spells)) (record {
      all = is.all;
      keys = is.keys;
      held = held_alike state 0 state.reservation is.held;
    })

-- and has the same spelling
pub decoded_spelled : (state : PrState) (body : List ℕ) → SpellsState state body
    → spell_state (state_decoded body) ≡ body
decoded_spelled state body spells =
    ap spell_state (decoded_again state body spells)
    ∙ ap (λ (l : List ℕ). aptpl_byte state.aptpl ∷ type_byte state.reservation ∷ holder_byte state.reservation
    ∷ count_by is_some state.keys ∷ l) (registrations_alike state 0)
    ∙ sym spells.bytes

-- bytes that are compared
pub equal_bytes : (xs ys : List ℕ) → xs ≡ ys → pointwise eqb xs ys ≡ true
equal_bytes xs ys e = ap (λ (l : List ℕ). pointwise eqb l ys) e ∙ itself ys
  where
    itself : (l : List ℕ) → pointwise eqb l l ≡ true
    itself [] = refl
    itself (x ∷ l) = and_from (eqb x x) (pointwise eqb l l) (eq-eqb x x refl) (itself l)

-- one nexus more is read
pub keys_step : (all : List (Option ℕ)) (nexus : ℕ) (rest : List ℕ) → 1 ≤ nexus → nexus ≤ 64 → length all ≡ 64
    → keys_decoded (nexuses_from nexus) rest ≡ drop (nexus - 1) all
    → (get_or all (nexus - 1) None ≡ key_decoded nexus rest)
    × (keys_decoded (nexuses_from (nexus + 1)) (behind nexus rest) ≡ drop (nexus + 1 - 1) all)
keys_step all nexus rest some few long so_far =
    let there : drop (nexus - 1) all ≡ get_or all (nexus - 1) None ∷ drop (suc (nexus - 1)) all =
    drop-cons all (nexus - 1) None (omega arith) in
    let here : keys_decoded (nexuses_from nexus) rest
    ≡ key_decoded nexus rest ∷ keys_decoded (nexuses_from (nexus + 1)) (behind nexus rest) =
    ap (λ (l : List ℕ). keys_decoded l rest) (nexuses_more nexus few)
    ∙ keys_more nexus (nexuses_from (nexus + 1)) rest in
    let both : get_or all (nexus - 1) None ∷ drop (suc (nexus - 1)) all
    ≡ key_decoded nexus rest ∷ keys_decoded (nexuses_from (nexus + 1)) (behind nexus rest) =
    sym there ∙ sym so_far ∙ here in
    let next : suc (nexus - 1) ≡ nexus + 1 - 1 = omega arith in (
      ap (λ (l : List (Option ℕ)). get_or l 0 None) both,
      ap (λ (l : List (Option ℕ)). drop 1 l) (sym both) ∙ ap (λ (n : ℕ). drop n all) next,
    )

-- the list of keys with one more
pub keys_below : (keys all : List (Option ℕ)) (nexus : ℕ) (key : Option ℕ) → 1 ≤ nexus → nexus ≤ 64
    → length keys ≡ 64 → get_or all (nexus - 1) None ≡ key
    → ((k : ℕ) → k < nexus - 1 → get_or keys k None ≡ get_or all k None)
    → (k : ℕ) → k < nexus + 1 - 1 → get_or (set keys (nexus - 1) key) k None ≡ get_or all k None
keys_below keys all nexus key some few long is below k less =
    elim (cases_lt k (nexus - 1)) [
      | inl earlier ↦
          get_or-set_other keys (nexus - 1) k key None (λ same. omega (arith, same, earlier)) ∙ below k earlier
      | inr here ↦
          let at : k ≡ nexus - 1 = omega arith in
          ap (λ (n : ℕ). get_or (set keys (nexus - 1) key) n None) at
          ∙ get_or-set_same keys (nexus - 1) key None (omega arith)
          ∙ sym is ∙ ap (λ (n : ℕ). get_or all n None) (sym at)
    ]

-- what holds where nothing was found
pub where_none : {A : Type 0} (found : Option A) (P : Type 0) → P → IfNone found P
where_none None P holds = holds
where_none (Some a) P holds = tt
