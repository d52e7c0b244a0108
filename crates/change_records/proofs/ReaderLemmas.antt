-- The state of a reader, a step further.
use Rattle.std.proofs.Common.{◌≡◌, inl, inr, ℕ, zero, suc, ◌<◌, ◌≤◌, ◌+◌, ◌-◌, List, [], ◌∷◌, ◌++◌, length, take, drop, refl, sym, ◌∙◌, ap, subst, arith, take-append-drop, Some, None, append_assoc, length-append, length-drop}
use Rattle.std.specs.Prelude.{Option, min}
use Rattle.std.proofs.lemmas.List.{append-nil, drop-append-le, drop_all, length-take, length-take-le, take_all, take_at}
use Rattle.std.proofs.lemmas.Bool.{cases_lt}
use Rattle.std.proofs.lemmas.List.Concat.{flat_map-append}
use Rattle.std.proofs.lemmas.List.Elements.{All-nil, All-push}
use Rattle.volume_core.specs.declared.changes.Change.{Change}
use Rattle.change_records.specs.declared.records.Record.{Record}
use Rattle.change_records.specs.declared.records.Record.TheVariants as Records
use Rattle.change_records.specs.Records.{BeginsWithRecord, IsAtFront, IsBadAt, IsRecord, SpellsAll, change_in, record_length, record_of, size_of, spell_all, spell_change}
use Rattle.change_records.specs.Readers.{Finds, IsAfter, IsHeadOf, IsLeft, IsDecoded, ReaderState, Stands, head_item}
use Rattle.change_records.proofs.HeadLemmas.{begins_item, none_short}
use Rattle.change_records.proofs.StandLemmas.{after_it, bad_for_ever, bad_head, bad_short, bad_under, head_short, rest_exact, rest_has, stands_filled, stands_over}

-- where bytes of a block are still to come, the head is whole
pub in_flight : (bytes : List ℕ) (changes : List Change) (reader : ReaderState) → IsAfter bytes changes reader
    → 1 ≤ reader.left
    → (length reader.head ≡ 10) × (length bytes - reader.begin - 10 + reader.left ≡ record_length reader.item)
in_flight bytes changes reader after some = (
  whole,
  (subst (λ (t : Option Record). IsLeft t (length bytes - reader.begin - 10) reader.left)
      (after.decoded some).item_is (after.under whole)).1,
)
  where
    whole : length reader.head ≡ 10
    whole =
        let short = head_short bytes changes reader.begin reader.at reader.head after.stands in
        elim (cases_lt (length reader.head) 10) [
          | inl less ↦ absurd (omega (arith, after.starts less, some))
          | inr least ↦ omega (arith, short, least)
        ]

-- bytes of a block that end no record
pub passed : (before bytes : List ℕ) (changes : List Change) (old new : ReaderState) → IsAfter before changes old
    → 1 ≤ new.left → new.left + length bytes ≡ old.left → new.at ≡ old.at + length bytes → new.begin ≡ old.begin
    → new.head ≡ old.head → new.item ≡ old.item → IsAfter (before ++ bytes) changes new
passed before bytes changes old new after some left at begin head item = record {
  stands =
      subst (λ (b : ℕ). Stands (before ++ bytes) changes b new.at new.head) (sym begin)
      (subst (λ (h : List ℕ). Stands (before ++ bytes) changes old.begin new.at h) (sym head)
      (stands_over before changes old.begin old.at old.head after.stands bytes new.at way.0 at));
  starts = λ short. absurd (omega (arith, short, ap length head, way.0));
  under =
      λ long.
      subst (λ (t : Option Record). IsLeft t (length (before ++ bytes) - new.begin - 10) new.left)
      (sym (ap head_item head ∙ decoded.item_is)) (some, counted);
  decoded = λ any. subst (λ (i : Record). IsDecoded i new.head) (sym item)
      (subst (λ (h : List ℕ). IsDecoded old.item h) (sym head) decoded);
}
  where
    way : (length old.head ≡ 10) × (length before - old.begin - 10 + old.left ≡ record_length old.item)
    way = in_flight before changes old after (omega (arith, some, left))

    decoded : IsDecoded old.item old.head
    decoded = after.decoded (omega (arith, some, left))

    counted : length (before ++ bytes) - new.begin - 10 + new.left ≡ record_length old.item
    counted =
        omega (
          arith,
          way.0,
          way.1,
          left,
          begin,
          length-append before bytes,
          after.stands.within,
          rest_has before changes old.begin old.at old.head after.stands,
        )

-- bytes of a block that end its record
pub ended : (before bytes : List ℕ) (changes : List Change) (old new : ReaderState) → IsAfter before changes old
    → 1 ≤ old.left → length bytes ≡ old.left → new.left ≡ 0 → new.at ≡ old.at + length bytes → new.begin ≡ new.at
    → new.head ≡ [] → Finds (before ++ bytes) changes old.item old.begin new
ended before bytes changes old new after some all none at begin head =
    after_it (before ++ bytes) changes old.begin new.at old.head
    (stands_over before changes old.begin old.at old.head after.stands bytes new.at way.0 at) old.item way.0
    (after.decoded some).front counted new head none begin refl
  where
    way : (length old.head ≡ 10) × (length before - old.begin - 10 + old.left ≡ record_length old.item)
    way = in_flight before changes old after some

    counted : length (before ++ bytes) - old.begin - 10 ≡ record_length old.item
    counted =
        omega (
          arith,
          way.0,
          way.1,
          all,
          length-append before bytes,
          after.stands.within,
          rest_has before changes old.begin old.at old.head after.stands,
        )

-- bytes after bytes that begin with no record
pub bad_more : (before piece : List ℕ) (changes : List Change) (old new : ReaderState) → IsAfter before changes old
    → old.left ≡ 0 → length old.head ≡ 10 → new.left ≡ 0 → new.at ≡ old.at + length piece → new.begin ≡ old.begin
    → new.head ≡ old.head
    → IsAfter (before ++ piece) changes new × ((more : List ℕ) → IsBadAt ((before ++ piece) ++ more) new.begin)
bad_more before piece changes old new after none whole still at begin head = (
  record {
    stands = stands;
    starts = λ short. still;
    under =
        λ long. subst (λ (t : Option Record). IsLeft t (length (before ++ piece) - new.begin - 10) new.left)
        (sym (ap head_item head ∙ decodes)) still;
    decoded = λ some. absurd (omega (arith, some, still));
  },
  λ more. bad_for_ever (before ++ piece) changes new.begin new.at new.head stands (ap length head ∙ whole)
      (ap head_item head ∙ decodes) more,
)
  where
    none_decoded : (decoded : Option Record) → IsLeft decoded (length before - old.begin - 10) old.left → decoded ≡ None
    none_decoded None left = refl
    none_decoded (Some item) left = absurd (omega (arith, left, none))

    decodes : head_item old.head ≡ None
    decodes = none_decoded (head_item old.head) (after.under whole)

    stands : Stands (before ++ piece) changes new.begin new.at new.head
    stands =
        subst (λ (b : ℕ). Stands (before ++ piece) changes b new.at new.head) (sym begin)
        (subst (λ (h : List ℕ). Stands (before ++ piece) changes old.begin new.at h) (sym head)
        (stands_over before changes old.begin old.at old.head after.stands piece new.at whole at))

-- a piece that is taken as far as the head goes
module _ (before piece : List ℕ) (changes : List Change) (old new : ReaderState) (count : ℕ)
    (after : IsAfter before changes old) (none : old.left ≡ 0) (missing : length old.head < 10)
    (counted : count ≡ min (10 - length old.head) (length piece)) (head : new.head ≡ old.head ++ take count piece) where
  filled : (to : ℕ) → to ≡ old.at + count → Stands (before ++ take count piece) changes old.begin to new.head
  filled to is = stands_filled before changes old.begin old.at old.head after.stands piece new.head count to counted
      head is

  count_long : length (take count piece) ≡ count
  count_long = length-take-le count piece (omega (arith, counted))

  head_long : length new.head ≡ length old.head + count
  head_long = omega (arith, ap length head, length-append old.head (take count piece), count_long)

  whole_piece : length new.head < 10 → take count piece ≡ piece
  whole_piece short = take_all count piece (omega (arith, short, head_long, counted))

  -- no head is whole
  pub filled_short : length new.head < 10 → new.left ≡ 0 → new.at ≡ old.at + count → new.begin ≡ old.begin
      → IsAfter (before ++ piece) changes new
  filled_short short still at begin = record {
    stands =
        subst (λ (p : List ℕ). Stands (before ++ p) changes new.begin new.at new.head) (whole_piece short)
        (subst (λ (b : ℕ). Stands (before ++ take count piece) changes b new.at new.head) (sym begin)
        (filled new.at at));
    starts = λ any. still;
    under = λ long. absurd (omega (arith, short, long));
    decoded = λ some. absurd (omega (arith, some, still));
  }

  -- a whole head that gives no record
  pub filled_bad : length new.head ≡ 10 → head_item new.head ≡ None → new.left ≡ 0
      → new.at ≡ old.at + length piece → new.begin ≡ old.begin
      → IsAfter (before ++ piece) changes new × ((more : List ℕ) → IsBadAt ((before ++ piece) ++ more) new.begin)
  filled_bad whole decodes still at begin = (
    record {
      stands = stands;
      starts = λ any. still;
      under =
          λ long. subst (λ (t : Option Record). IsLeft t (length (before ++ piece) - new.begin - 10) new.left)
          (sym decodes) still;
      decoded = λ some. absurd (omega (arith, some, still));
    },
    λ more. bad_for_ever (before ++ piece) changes new.begin new.at new.head stands whole decodes more,
  )
    where
      parts : (before ++ take count piece) ++ drop count piece ≡ before ++ piece
      parts =
          append_assoc before (take count piece) (drop count piece)
          ∙ ap (λ (l : List ℕ). before ++ l) (take-append-drop count piece)

      stands : Stands (before ++ piece) changes new.begin new.at new.head
      stands =
          subst (λ (b : ℕ). Stands (before ++ piece) changes b new.at new.head) (sym begin)
          (subst (λ (l : List ℕ). Stands l changes old.begin new.at new.head) parts
          (stands_over (before ++ take count piece) changes old.begin (old.at + count) new.head
          (filled (old.at + count) refl) (drop count piece) new.at whole
          (omega (arith, at, length-drop count piece, counted))))

  there_none : length new.head ≡ 10 → length (before ++ take count piece) - old.begin - 10 ≡ 0
  there_none whole =
      omega (
        arith,
        whole,
        head_long,
        count_long,
        length-append before (take count piece),
        rest_exact before changes old.begin old.at old.head after.stands missing,
        after.stands.within,
      )

  -- a whole head that gives a record with a block
  pub filled_decoded : length new.head ≡ 10 → head_item new.head ≡ Some new.item → IsHeadOf new.item new.head
      → new.left ≡ record_length new.item → 1 ≤ new.left → new.at ≡ old.at + count → new.begin ≡ old.begin
      → IsAfter (before ++ take count piece) changes new
  filled_decoded whole decodes front left some at begin = record {
    stands =
        subst (λ (b : ℕ). Stands (before ++ take count piece) changes b new.at new.head) (sym begin)
        (filled new.at at);
    starts = λ short. absurd (omega (arith, short, whole));
    under =
        λ long. subst (λ (t : Option Record). IsLeft t (length (before ++ take count piece) - new.begin - 10) new.left)
        (sym decodes) (some, omega (arith, left, there_none whole, begin));
    decoded = λ any. record { item_is = decodes; front = front };
  }

  -- a whole head that gives a record without a block
  pub filled_whole : (item : Record) (behind : ReaderState) → length new.head ≡ 10 → IsHeadOf item new.head
      → record_length item ≡ 0 → behind.head ≡ [] → behind.left ≡ 0 → behind.begin ≡ old.at + count
      → behind.at ≡ old.at + count → Finds (before ++ take count piece) changes item old.begin behind
  filled_whole item behind whole front block no_head still begin at =
      after_it (before ++ take count piece) changes old.begin (old.at + count) new.head (filled (old.at + count) refl)
      item whole front (there_none whole ∙ sym block) behind no_head still begin at

-- the result at the end of a body
pub ends_well : (bytes : List ℕ) (changes : List Change) (reader : ReaderState) → IsAfter bytes changes reader
    → length reader.head ≡ 0 → SpellsAll bytes changes
ends_well bytes changes reader after none = (after.stands.spelled, whole)
  where
    nothing : (xs : List ℕ) → length xs ≡ 0 → xs ≡ []
    nothing [] is = refl
    nothing (x ∷ xs) is = absurd (omega (arith, is))

    exact : length bytes - reader.begin ≡ 0
    exact =
        omega (
          arith,
          none,
          rest_exact bytes changes reader.begin reader.at reader.head after.stands
              (omega (arith, none)),
        )

    whole : bytes ≡ spell_all changes
    whole =
        after.stands.begins
        ∙ ap (λ (l : List ℕ). spell_all changes ++ l)
        (nothing (drop reader.begin bytes) (omega (arith, exact, length-drop reader.begin bytes)))
        ∙ append-nil (spell_all changes)

pub ends_badly : (bytes : List ℕ) (changes : List Change) (reader : ReaderState) → IsAfter bytes changes reader
    → 1 ≤ length reader.head → IsBadAt bytes reader.begin
ends_badly bytes changes reader after some = elim (cases_lt (length reader.head) 10) [
  | inl less ↦ bad_short bytes changes reader.begin reader.at reader.head after.stands some less
  | inr least ↦ by_head (whole least)
]
  where
    whole : 10 ≤ length reader.head → length reader.head ≡ 10
    whole least =
        let short = head_short bytes changes reader.begin reader.at reader.head after.stands in
        omega (arith, short, least)

    by_head : length reader.head ≡ 10 → IsBadAt bytes reader.begin
    by_head ten = decoded (head_item reader.head) refl (after.under ten)
      where
        decoded : (t : Option Record) → head_item reader.head ≡ t
            → IsLeft t (length bytes - reader.begin - 10) reader.left → IsBadAt bytes reader.begin
        decoded None is left = bad_head bytes changes reader.begin reader.at reader.head after.stands ten is
        decoded (Some item) is left =
            bad_under bytes changes reader.begin reader.at reader.head after.stands item ten is
            (omega (arith, left.0, left.1))

-- the first bytes of a list in two parts
pub take_parts : (from count : ℕ) (xs : List ℕ) → take from xs ++ take count (drop from xs) ≡ take (from + count) xs
take_parts zero count xs = ap (λ (n : ℕ). take n xs) (omega arith)
take_parts (suc from) count [] = take_all count [] (omega arith) ∙ sym (take_all (suc from + count) [] (omega arith))
take_parts (suc from) count (x ∷ xs) =
    let sum : suc (from + count) ≡ suc from + count = omega arith in
    ap (λ (l : List ℕ). x ∷ l) (take_parts from count xs) ∙ ap (λ (n : ℕ). take n (x ∷ xs)) sum

-- a part of a piece, after the bytes before it
pub behind_parts : (before piece : List ℕ) (from count : ℕ)
    → (before ++ take from piece) ++ take count (drop from piece) ≡ before ++ take (from + count) piece
behind_parts before piece from count =
    append_assoc before (take from piece) (take count (drop from piece))
    ∙ ap (λ (l : List ℕ). before ++ l) (take_parts from count piece)
