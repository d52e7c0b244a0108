-- The state of a reader, piece by piece.
use Rattle.std.proofs.Common.{◌≡◌, inl, inr, ℕ, ◌<◌, ◌≤◌, ◌+◌, ◌-◌, List, [], ◌∷◌, ◌++◌, length, take, drop, refl, sym, ◌∙◌, ap, subst, arith, take-append-drop, Some, None, append_assoc, length-append, length-drop}
use Rattle.std.specs.Prelude.{Option, min}
use Rattle.std.proofs.lemmas.List.{append-nil, length-take-le}
use Rattle.std.proofs.lemmas.Bool.{cases_lt}
use Rattle.change_records.specs.declared.records.Record.{Record}
use Rattle.change_records.specs.Records.{record_length}
use Rattle.sealed_records.specs.Sealed.{IsUnsealedAt, Laid, SpellsLaids, sealed_item, spell_laids, sum_in}
use Rattle.sealed_records.specs.Readers.{FindsSealed, IsAfterSealed, IsLeftOf, IsSealedHeadOf, Refuses, SealedState, StandsSealed, refusal_at}
use Rattle.sealed_records.proofs.StandLemmas.{after_it, bad_for_ever, bad_head, bad_short, bad_under, head_short, refuses, rest_exact, rest_has, stands_filled, stands_over}

module _ (before : List ℕ) (laids : List Laid) (old : SealedState) (after : IsAfterSealed before laids old) where
  abbrev item_now : Option Record
  item_now = sealed_item old.seed (old.place + old.begin) old.head

  -- the head is whole, and so many bytes of the block are still to come
  abbrev InFlight : Type 0
  InFlight = (length old.head ≡ 18) × (length before - old.begin - 18 + old.left ≡ record_length old.item)

  -- where bytes of a block are still to come, the head is whole
  in_flight : 1 ≤ old.left → InFlight
  in_flight some = (
    whole,
    (subst (λ (t : Option Record). IsLeftOf t (length before - old.begin - 18) old.left)
        (after.decoded some).item_is (after.under whole)).1,
  )
    where
      whole : length old.head ≡ 18
      whole =
          let short = head_short old.seed old.place before laids old.begin old.at old.head after.stands in
          elim (cases_lt (length old.head) 18) [
            | inl less ↦ absurd (omega (arith, after.starts less, some))
            | inr least ↦ omega (arith, short, least)
          ]

  has : length old.head ≤ length before - old.begin
  has = rest_has old.seed old.place before laids old.begin old.at old.head after.stands

  -- bytes of a block that end no record
  pub passed : (bytes : List ℕ) (left at : ℕ) → 1 ≤ left → left + length bytes ≡ old.left
      → at ≡ old.at + length bytes → IsAfterSealed (before ++ bytes) laids (record old { left = left; at = at })
  passed bytes left at some counted at_is = by (in_flight (omega (arith, some, counted)))
    where
      by : InFlight → IsAfterSealed (before ++ bytes) laids (record old { left = left; at = at })
      by (whole, sum) = record {
        stands =
            stands_over old.seed old.place before laids old.begin old.at old.head after.stands bytes at whole at_is;
        starts = λ short. absurd (omega (arith, short, whole));
        under = λ long.
            subst (λ (t : Option Record). IsLeftOf t (length (before ++ bytes) - old.begin - 18) left)
            (sym (after.decoded (omega (arith, some, counted))).item_is)
            (some, omega (arith, whole, sum, counted, length-append before bytes, after.stands.within, has));
        decoded = λ any. after.decoded (omega (arith, some, counted));
      }

  -- bytes of a block that end its record
  pub ended : (bytes : List ℕ) (at sum : ℕ) → 1 ≤ old.left → length bytes ≡ old.left → at ≡ old.at + length bytes
      → (length old.head ≡ 18 → sum ≡ sum_in old.head)
      → FindsSealed (before ++ bytes) laids old.item sum old.begin
      (record old { head = []; left = 0; begin = at; at = at })
  ended bytes at sum some all at_is sum_is = by (in_flight some)
    where
      by : InFlight → FindsSealed (before ++ bytes) laids old.item sum old.begin
          (record old { head = []; left = 0; begin = at; at = at })
      by (whole, counted) =
          after_it old.seed old.place (before ++ bytes) laids old.begin at old.head
          (stands_over old.seed old.place before laids old.begin old.at old.head after.stands bytes at whole at_is)
          old.item whole (after.decoded some).front
          (omega (arith, whole, counted, all, length-append before bytes, after.stands.within, has)) sum (sum_is whole)
          (record old { head = []; left = 0; begin = at; at = at }) refl refl refl refl refl refl

  none_decoded : (decoded : Option Record) → IsLeftOf decoded (length before - old.begin - 18) old.left → old.left ≡ 0
      → decoded ≡ None
  none_decoded None left none = refl
  none_decoded (Some item) left none = absurd (omega (arith, left, none))

  -- bytes after bytes that begin with no record
  pub bad_more : (piece : List ℕ) (at : ℕ) → old.left ≡ 0 → length old.head ≡ 18 → at ≡ old.at + length piece
      → IsAfterSealed (before ++ piece) laids (record old { at = at })
      × ((more : List ℕ) → Refuses (refusal_at old.seed (old.place + old.begin) old.head old.begin) old.seed old.place
      ((before ++ piece) ++ more))
  bad_more piece at none whole at_is =
      let decodes : item_now ≡ None = none_decoded item_now (after.under whole) none in
      let stands = stands_over old.seed old.place before laids old.begin old.at old.head after.stands piece at whole
      at_is in (
        record {
          stands = stands;
          starts = λ short. none;
          under = λ long.
              subst (λ (t : Option Record). IsLeftOf t (length (before ++ piece) - old.begin - 18) old.left)
              (sym decodes) none;
          decoded = λ some. absurd (omega (arith, some, none));
        },
        λ more. bad_for_ever old.seed old.place (before ++ piece) laids old.begin at old.head stands whole decodes more,
      )

  -- a piece that is taken as far as the head goes
  module _ (piece : List ℕ) (count : ℕ) (head : List ℕ) (none : old.left ≡ 0) (missing : length old.head < 18)
      (counted : count ≡ min (18 - length old.head) (length piece)) (is : head ≡ old.head ++ take count piece) where
    filled : (to : ℕ) → to ≡ old.at + count
        → StandsSealed old.seed old.place (before ++ take count piece) laids old.begin to head
    filled to to_is =
        stands_filled old.seed old.place before laids old.begin old.at old.head after.stands piece head count to
        counted is to_is

    count_long : length (take count piece) ≡ count
    count_long = length-take-le count piece (omega (arith, counted))

    head_long : length head ≡ length old.head + count
    head_long = omega (arith, ap length is, length-append old.head (take count piece), count_long)

    -- no head is whole
    pub filled_short : (at : ℕ) → length head < 18 → at ≡ old.at + count
        → IsAfterSealed (before ++ take count piece) laids (record old { head = head; at = at })
    filled_short at short at_is = record {
      stands = filled at at_is;
      starts = λ any. none;
      under = λ long. absurd (omega (arith, short, long));
      decoded = λ some. absurd (omega (arith, some, none));
    }

    -- a whole head that gives no record
    pub filled_bad : (at : ℕ) → length head ≡ 18 → sealed_item old.seed (old.place + old.begin) head ≡ None
        → at ≡ old.at + length piece
        → IsAfterSealed (before ++ piece) laids (record old { head = head; at = at })
        × ((more : List ℕ) → Refuses (refusal_at old.seed (old.place + old.begin) head old.begin) old.seed old.place
        ((before ++ piece) ++ more))
    filled_bad at whole decodes at_is = (
      record {
        stands = stands;
        starts = λ any. none;
        under = λ long. subst (λ (t : Option Record). IsLeftOf t (length (before ++ piece) - old.begin - 18) old.left)
            (sym decodes) none;
        decoded = λ some. absurd (omega (arith, some, none));
      },
      λ more. bad_for_ever old.seed old.place (before ++ piece) laids old.begin at head stands whole decodes more,
    )
      where
        parts : (before ++ take count piece) ++ drop count piece ≡ before ++ piece
        parts =
            append_assoc before (take count piece) (drop count piece)
            ∙ ap (λ (l : List ℕ). before ++ l) (take-append-drop count piece)

        stands : StandsSealed old.seed old.place (before ++ piece) laids old.begin at head
        stands =
            subst (λ (l : List ℕ). StandsSealed old.seed old.place l laids old.begin at head) parts
            (stands_over old.seed old.place (before ++ take count piece) laids old.begin (old.at + count) head
            (filled (old.at + count) refl) (drop count piece) at whole
            (omega (arith, at_is, length-drop count piece, counted)))

    there_none : length head ≡ 18 → length (before ++ take count piece) - old.begin - 18 ≡ 0
    there_none whole =
        omega (
          arith,
          whole,
          head_long,
          count_long,
          length-append before (take count piece),
          rest_exact old.seed old.place before laids old.begin old.at old.head after.stands missing,
          after.stands.within,
        )

    -- a whole head that gives a record with a block
    pub filled_decoded : (item : Record) (at : ℕ) → length head ≡ 18
        → sealed_item old.seed (old.place + old.begin) head ≡ Some item
        → IsSealedHeadOf old.seed (old.place + old.begin) item head → (left : ℕ) → left ≡ record_length item
        → 1 ≤ left → at ≡ old.at + count
        → IsAfterSealed (before ++ take count piece) laids
        (record old { head = head; item = item; left = left; at = at })
    filled_decoded item at whole decodes front left left_is some at_is = record {
      stands = filled at at_is;
      starts = λ short. absurd (omega (arith, short, whole));
      under = λ long.
          subst (λ (t : Option Record). IsLeftOf t (length (before ++ take count piece) - old.begin - 18) left)
          (sym decodes) (some, omega (arith, left_is, there_none whole));
      decoded = λ any. record { item_is = decodes; front = front };
    }

    -- a whole head that gives a record without a block
    pub filled_whole : (item : Record) (other : Record) (at left sum : ℕ) → length head ≡ 18
        → IsSealedHeadOf old.seed (old.place + old.begin) item head → record_length item ≡ 0 → left ≡ 0
        → at ≡ old.at + count → sum ≡ sum_in head
        → FindsSealed (before ++ take count piece) laids item sum old.begin
        (record old { head = []; item = other; left = left; begin = at; at = at })
    filled_whole item other at left sum whole front block still at_is sum_is =
        after_it old.seed old.place (before ++ take count piece) laids old.begin at head (filled at at_is) item whole
        front (there_none whole ∙ sym block) sum sum_is
        (record old { head = []; item = other; left = left; begin = at; at = at }) refl refl refl still refl refl

  nothing : (xs : List ℕ) → length xs ≡ 0 → xs ≡ []
  nothing [] e = refl
  nothing (x ∷ xs) e = absurd (omega (arith, e))

  -- the result at the end of a body
  pub ends_well : length old.head ≡ 0 → SpellsLaids old.seed old.place before laids
  ends_well none = (after.stands.spelled, whole)
    where
      exact : length before - old.begin ≡ 0
      exact =
          omega (
            arith,
            none,
            rest_exact old.seed old.place before laids old.begin old.at old.head after.stands (omega (arith, none)),
          )

      whole : before ≡ spell_laids old.seed old.place laids
      whole =
          after.stands.begins
          ∙ ap (λ (l : List ℕ). spell_laids old.seed old.place laids ++ l)
          (nothing (drop old.begin before) (omega (arith, exact, length-drop old.begin before)))
          ∙ append-nil (spell_laids old.seed old.place laids)

  unsealed : 1 ≤ length old.head → IsUnsealedAt old.seed old.place before old.begin
  unsealed some = elim (cases_lt (length old.head) 18) [
    | inl less ↦ bad_short old.seed old.place before laids old.begin old.at old.head after.stands some less
    | inr least ↦ by_head (whole least)
  ]
    where
      whole : 18 ≤ length old.head → length old.head ≡ 18
      whole least =
          let short = head_short old.seed old.place before laids old.begin old.at old.head after.stands in
          omega (arith, short, least)

      by_head : length old.head ≡ 18 → IsUnsealedAt old.seed old.place before old.begin
      by_head eighteen = decoded item_now refl (after.under eighteen)
        where
          decoded : (t : Option Record) → item_now ≡ t → IsLeftOf t (length before - old.begin - 18) old.left
              → IsUnsealedAt old.seed old.place before old.begin
          decoded None e left =
              bad_head old.seed old.place before laids old.begin old.at old.head after.stands eighteen e
          decoded (Some item) e left =
              bad_under old.seed old.place before laids old.begin old.at old.head after.stands item eighteen e
              (omega (arith, left.0, left.1))

  pub ends_badly : 1 ≤ length old.head
      → Refuses (refusal_at old.seed (old.place + old.begin) old.head old.begin) old.seed old.place before
  ends_badly some =
      refuses old.seed old.place before laids old.begin old.at old.head after.stands (unsealed some)
