-- The changes of a frame are entered into the index, one after the other.
use Rattle.std.proofs.Common.{◌≡◌, inl, inr, ℕ, zero, suc, ◌<◌, ◌≤◌, ◌+◌, List, [], ◌∷◌, ◌++◌, length, take, drop, sum_by, Option, None, Some, Bool, true, false, refl, sym, ◌∙◌, ap, subst, arith, length-append}
use Rattle.std.specs.Prelude.{slice_get, slice_set, slice_index_or, ◌==◌, if◌then◌else◌}
use Rattle.std.proofs.Math.Numerals.{add-one}
use Rattle.std.proofs.Math.Seq.{drop-cons, take-suc}
use Rattle.std.proofs.lemmas.Grind.{flat_map-append}
use Rattle.std.proofs.lemmas.List.{drop_at, take-append-drop}
use Rattle.std.proofs.lemmas.Bool.{cases_eq, eq-eqb, eqb-true}
use Rattle.std.proofs.lemmas.List.Sums.{sum_by-append, sum_by-cons, sum_by_more_le}
use Rattle.volume_core.specs.declared.changes.Change.{Change}
use Rattle.volume_core.specs.declared.changes.Change.TheVariants.{Put, Marks, Erase}
use Rattle.volume_core.specs.Volume as volumes
use Rattle.volume_core.specs.Volume.{Part, AllApply, after, changed, refusal_of}
use Rattle.volume_core.specs.Stores.{after_append}
use Rattle.change_records.specs.declared.records.Record.{Record}
use Rattle.change_records.specs.Records.{IsAtFront, IsRecord, change_in, record_of, spell_change, spell_all}
use Rattle.object_index.specs.Indexes.{LiesAt}
use Rattle.change_records.specs.Inner.Spelled.{change_again, length-spell, rest_again}
use Rattle.cartridge.specs.Lying.{IsPlaceOf, LiesIn}
use Rattle.cartridge.proofs.WalkingLemmas.{lies_here}
use Rattle.change_records.specs.Records.{record_staying, record_part}
use Rattle.object_index.specs.Places.{PlacedPart, placed_after, placed_by, placed_objects, reserved_in, reserved_of, runs_of, with_objects_in}
use Rattle.cartridge.specs.Answers.{entries_of}
use Rattle.cartridge.specs.Inner.Growing.{TakesEntries}
use Rattle.cartridge.proofs.RecordLemmas.{inside_of, same_length}

-- the next of changes that all apply is not refused
pub next_applies : (volume : List Part) (changes : List Change) (i : ℕ) (change : Change) → AllApply volume changes
    → i < length changes → change ≡ slice_index_or changes i change
    → refusal_of (after volume (take i changes)) change ≡ None
next_applies volume [] i change apply inside is = absurd (omega (arith, inside))
next_applies volume (c ∷ cs) zero change apply inside is =
    ap (refusal_of volume) is ∙ apply.0
next_applies volume (c ∷ cs) (suc i) change apply inside is =
    next_applies (changed volume c) cs i change apply.1 (omega (arith, inside)) is

-- what the first i and one more make
pub after_next : (volume : List Part) (changes : List Change) (i : ℕ) (change : Change) → i < length changes
    → change ≡ slice_index_or changes i change
    → after volume (take (i + 1) changes) ≡ changed (after volume (take i changes)) change
after_next volume changes i change inside is =
    ap (after volume) (ap (λ (n : ℕ). take n changes) (add-one i) ∙ take-suc changes i change inside)
    ∙ after_append volume (take i changes) (slice_index_or changes i change ∷ [])
    ∙ ap (changed (after volume (take i changes))) (sym is)

pub entries_next : (part : ℕ) (changes : List Change) (i : ℕ) (change : Change) → i < length changes
    → change ≡ slice_index_or changes i change
    → sum_by (entries_of part) (take (i + 1) changes)
    ≡ sum_by (entries_of part) (take i changes) + entries_of part change
entries_next part changes i change inside is =
    omega (
      arith,
      ap (sum_by (entries_of part)) (ap (λ (n : ℕ). take n changes) (add-one i) ∙ take-suc changes i change inside),
      sum_by-append (entries_of part) (take i changes) (slice_index_or changes i change ∷ []),
      ap (entries_of part) is,
    )

-- what the next takes is within what all take
pub entries_left : (part : ℕ) (changes : List Change) (i : ℕ) (change : Change) → i < length changes
    → change ≡ slice_index_or changes i change
    → sum_by (entries_of part) (take i changes) + entries_of part change ≤ sum_by (entries_of part) changes
entries_left part changes i change inside is =
    omega (arith, sum_by_more_le (entries_of part) changes i change inside, ap (entries_of part) is)

same_number : (n : ℕ) → (n == n) ≡ true
same_number n = eq-eqb n n refl

-- a record adds as many runs as its change has entries
pub entries_are : (change : Change) → entries_of (record_part (record_of change)) change ≡ runs_of (record_of change)
entries_are (Put part at block) = ap (λ (b : Bool). if b then 1 else 0) (same_number part)
entries_are (Marks part at count) = ap (λ (b : Bool). if b then 1 else 0) (same_number part)
entries_are (Erase part at) = refl

set_elsewhere : (index : List PlacedPart) (n p : ℕ) (q : PlacedPart) → (p ≡ n → ⊥)
    → slice_get (slice_set index n q) p ≡ slice_get index p
set_elsewhere [] n p q other = refl
set_elsewhere (x ∷ xs) zero zero q other = absurd (other refl)
set_elsewhere (x ∷ xs) zero (suc p) q other = refl
set_elsewhere (x ∷ xs) (suc n) zero q other = refl
set_elsewhere (x ∷ xs) (suc n) (suc p) q other = set_elsewhere xs n p q (λ e. other (ap suc e))

-- a record takes nothing of another partition
reserved_elsewhere : (index : List PlacedPart) (item : Record) (place reserved p : ℕ) → (p ≡ record_part item → ⊥)
    → reserved_of (placed_after index item place reserved) p ≡ reserved_of index p
reserved_elsewhere index item place reserved p other = by (slice_get index (record_part item))
  where
    by : (found : Option PlacedPart)
        → reserved_of (with_objects_in found index (record_part item)
        (take (record_staying item) (placed_objects index (record_part item)) ++ placed_by item place) reserved) p
        ≡ reserved_of index p
    by None = refl
    by (Some part) = ap reserved_in (set_elsewhere index (record_part item) p _ other)

-- one change more takes its entries at most
pub takes_next : (start index index' : List PlacedPart) (changes : List Change) (i : ℕ) (change : Change)
    (item : Record) (place reserved : ℕ) → i < length changes → change ≡ slice_index_or changes i change
    → record_of change ≡ item → TakesEntries start (take i changes) index
    → index' ≡ placed_after index item place reserved
    → reserved_of index (record_part item) ≤ reserved_of index' (record_part item) + runs_of item
    → TakesEntries start (take (i + 1) changes) index'
takes_next start index index' changes i change item place reserved inside is item_is takes index_is here part =
    elim (cases_eq part (record_part item)) [
      | inl same ↦
          omega (
            arith,
            takes part,
            entries_next part changes i change inside is,
            ap (reserved_of index) same,
            ap (reserved_of index') same,
            here,
            ap (λ (p : ℕ). entries_of p change) same,
            ap (λ (r : Record). entries_of (record_part r) change) (sym item_is),
            ap runs_of (sym item_is),
            entries_are change,
          )
      | inr other ↦
          omega (
            arith,
            takes part,
            entries_next part changes i change inside is,
            ap (λ (x : List PlacedPart). reserved_of x part) index_is,
            reserved_elsewhere index item place reserved part other,
          )
    ]

abbrev one_if : Bool → ℕ
one_if b = if b then 1 else 0

zero_unless : (b : Bool) → (b ≡ true → ⊥) → one_if b ≡ 0
zero_unless true never = absurd (never refl)
zero_unless false never = refl

none_of : (part : ℕ) (volume : List Part) (change : Change) → refusal_of volume change ≡ None → length volume ≤ part
    → entries_of part change ≡ 0
none_of part volume (Put p at block) none beyond =
    let inside : p < length volume = inside_of volume (Put p at block) none in
    zero_unless (part == p) (λ e. absurd (omega (arith, eqb-true part p e, inside, beyond)))
none_of part volume (Marks p at count) none beyond =
    let inside : p < length volume = inside_of volume (Marks p at count) none in
    zero_unless (part == p) (λ e. absurd (omega (arith, eqb-true part p e, inside, beyond)))
none_of part volume (Erase p at) none beyond = refl

length_same : (volume : List Part) (change : Change) → length (changed volume change) ≡ length volume
length_same volume change = same_length (slice_get volume (volumes.part_of change)) volume change

-- changes that apply take nothing of a partition that is not there
pub entries_none : (volume : List Part) (changes : List Change) (part : ℕ) → AllApply volume changes
    → length volume ≤ part → sum_by (entries_of part) changes ≡ 0
entries_none volume [] part apply beyond = refl
entries_none volume (change ∷ changes) part apply beyond =
    omega (
      arith,
      sum_by-cons (entries_of part) change changes,
      none_of part volume change apply.0 beyond,
      entries_none (changed volume change) changes part apply.1 (omega (arith, beyond, length_same volume change)),
    )

-- a change's record stands at the front of its spelling, whatever follows
front_of : (change : Change) (rest : List ℕ) → IsRecord change → IsAtFront (record_of change) (spell_change change ++
    rest)
front_of change rest is =
    let same : change_in (record_of change) (spell_change change ++ rest) ≡ change = change_again change rest in
    record {
      valid = subst IsRecord (sym same) is;
      spelled = λ i. spell_change (sym same i) ++ sym (rest_again change rest) i;
      sized = ap (λ (c : Change). length (spell_change c)) same ∙ length-spell change;
      within = omega (arith, length-spell change, length-append (spell_change change) rest);
      of_it = ap record_of same;
    }

-- what stands in a body behind the first i changes
behind : (changes : List Change) (i : ℕ) (change : Change) → i < length changes
    → change ≡ slice_index_or changes i change
    → drop (length (spell_all (take i changes))) (spell_all changes)
    ≡ spell_change change ++ spell_all (drop (suc i) changes)
behind changes i change inside is =
    let parted : spell_all changes ≡ spell_all (take i changes) ++ spell_all (drop i changes) =
    ap spell_all (sym (take-append-drop i changes)) ∙ flat_map-append spell_change (take i changes) (drop i changes) in
    ap (drop (length (spell_all (take i changes)))) parted
    ∙ drop_at (spell_all (take i changes)) (spell_all (drop i changes)) (length (spell_all (take i changes))) refl
    ∙ ap spell_all (drop-cons changes i change inside ∙ ap (λ (c : Change). c ∷ drop (suc i) changes) (sym is))

-- the block of a change of the last frame lies behind its record's head
pub lies_placed : (bodies : List (List ℕ)) (changes : List Change) (extents : List (ℕ × ℕ)) (frame i : ℕ)
    (change : Change) (item : Record) (begin place : ℕ)
    → frame ≡ length bodies → frame < length extents
    → length (spell_all changes) ≡ (slice_index_or extents frame (0, 0)).1
    → i < length changes → change ≡ slice_index_or changes i change → IsRecord change → record_of change ≡ item
    → begin ≡ (slice_index_or extents frame (0, 0)).0 + length (spell_all (take i changes))
    → IsPlaceOf item begin place
    → LiesAt (LiesIn (bodies ++ spell_all changes ∷ []) extents) change place
lies_placed bodies changes extents frame i change item begin place last inside sized there is good item_is begin_is
    place_is =
    let from = length (spell_all (take i changes)) in
    let rest = spell_all (drop (suc i) changes) in
    let body = spell_all changes in
    let at_is : drop from body ≡ spell_change change ++ rest = behind changes i change there is in
    let same : change_in (record_of change) (drop from body) ≡ change =
    ap (change_in (record_of change)) at_is ∙ change_again change rest in
    subst (λ (c : Change). LiesAt (LiesIn (bodies ++ body ∷ []) extents) c place) same
    (lies_here bodies body extents frame from (record_of change) place last inside sized
    (subst (IsAtFront (record_of change)) (sym at_is) (front_of change rest good))
    (subst (λ (x : Record × ℕ). IsPlaceOf x.0 x.1 place) (λ k. (sym item_is k, begin_is k)) place_is))
