-- The state of a reader, a step further.
use Rattle.std.proofs.Common.{◌≡◌, ℕ, zero, suc, ◌<◌, ◌≤◌, ◌+◌, ◌-◌, List, [], ◌∷◌, ◌++◌, length, take, drop, refl, sym, ◌∙◌, ap, subst, arith, take-append-drop, Some, None, inl, inr, append_assoc, length-append, length-drop}
use Rattle.std.specs.Prelude.{min, nat_lt, if◌then◌else◌, true, false}
use Rattle.std.proofs.lemmas.Bool.{cases_Bool, cases_lt, cond-false, cond-true, le-ltb, lt-ltb}
use Rattle.std.proofs.lemmas.List.{append-nil, drop-append-le, drop_all, length-take, length-take-le, take-append-le, take_all, take_at}
use Rattle.std.proofs.lemmas.List.Elements.{All-nil, All-push}
use Rattle.byteorder.specs.Endian.{big_from, big_number}
use Rattle.byteorder.specs.Numbers.{big_from-take}
use Rattle.change_records.specs.declared.records.Record.{Record}
use Rattle.change_records.specs.Records.{record_length, record_of}
use Rattle.sealed_records.specs.declared.reader.SealedError.{SealedError}
use Rattle.sealed_records.specs.declared.reader.SealedError.TheVariants.{BadRecord, BadSum}
use Rattle.sealed_records.specs.Sealed.{BeginsWithLaid, IsLaid, IsSealedFront, IsUnsealedAt, Laid, is_summed, laid_in, laid_size, sealed_item, spell_laid, spell_laids, sum_in}
use Rattle.sealed_records.specs.Readers.{FindsSealed, IsSealedHeadOf, Refuses, SealedState, StandsSealed, refusal_at}
use Rattle.sealed_records.proofs.HeadLemmas.{begins_item, laid_long, none_short}

pub take_of_take : (n : ℕ) (xs ys : List ℕ) → take n (take n xs ++ ys) ≡ take n (xs ++ ys)
take_of_take zero xs ys = refl
take_of_take (suc n) [] ys = refl
take_of_take (suc n) (x ∷ xs) ys = ap (λ (l : List ℕ). x ∷ l) (take_of_take n xs ys)

-- a whole head gives the sum of the block, whatever follows
pub sum_again : (head tail : List ℕ) → length head ≡ 18 → sum_in (head ++ tail) ≡ sum_in head
sum_again head tail long =
    ap (big_number 4) (drop-append-le 10 head tail (omega (arith, long)))
    ∙ sym (big_from-take 0 4 4 (drop 10 head ++ tail) (omega arith))
    ∙ ap (big_from 0 4) (take-append-le 4 (drop 10 head) tail (omega (arith, long, length-drop 10 head)))
    ∙ big_from-take 0 4 4 (drop 10 head) (omega arith)

-- one record more
pub spell_push : (seed place : ℕ) (laids : List Laid) (laid : Laid)
    → spell_laids seed place (laids ++ laid ∷ [])
    ≡ spell_laids seed place laids ++ spell_laid seed (place + length (spell_laids seed place laids)) laid
spell_push seed place [] laid =
    let e : place ≡ place + 0 = omega arith in
    append-nil (spell_laid seed place laid) ∙ ap (λ (p : ℕ). spell_laid seed p laid) e
spell_push seed place (first ∷ laids) laid =
    let one = spell_laid seed place first in
    let behind = spell_laids seed (place + laid_size first) laids in
    let e : place + laid_size first + length behind ≡ place + length (one ++ behind) =
    omega (arith, length-append one behind, laid_long seed place first) in
    ap (λ (l : List ℕ). one ++ l) (spell_push seed (place + laid_size first) laids laid)
    ∙ ap (λ (p : ℕ). one ++ (behind ++ spell_laid seed p laid)) e
    ∙ sym (append_assoc one behind (spell_laid seed (place + length (one ++ behind)) laid))

pub stands_none : (seed place : ℕ) → StandsSealed seed place [] [] 0 0 []
stands_none seed place = record {
  spelled = All-nil IsLaid;
  begins = refl;
  begin_is = refl;
  within = omega arith;
  at_is = refl;
  head_is = refl;
}

module _ (seed place : ℕ) (bytes : List ℕ) (laids : List Laid) (begin at : ℕ) (head : List ℕ)
    (s : StandsSealed seed place bytes laids begin at head) where
  abbrev rest : List ℕ
  rest = drop begin bytes

  pub rest_more : (more : List ℕ) → drop begin (bytes ++ more) ≡ rest ++ more
  rest_more more = drop-append-le begin bytes more s.within

  -- with more bytes
  pub stands_more : (more : List ℕ)
      → StandsSealed seed place (bytes ++ more) laids begin (at + length more) (take 18 (head ++ more))
  stands_more more = record {
    spelled = s.spelled;
    begins =
        ap (λ (l : List ℕ). l ++ more) s.begins ∙ append_assoc (spell_laids seed place laids) rest more
        ∙ ap (λ (l : List ℕ). spell_laids seed place laids ++ l) (sym (rest_more more));
    begin_is = s.begin_is;
    within = omega (arith, s.within, length-append bytes more);
    at_is = omega (arith, s.at_is, length-append bytes more);
    head_is =
        ap (λ (h : List ℕ). take 18 (h ++ more)) s.head_is ∙ take_of_take 18 rest more
        ∙ ap (take 18) (sym (rest_more more));
  }

  pub head_short : length head ≤ 18
  head_short = omega (arith, ap length s.head_is, length-take 18 rest)

  -- the head, and then what follows it
  pub head_first : rest ≡ head ++ drop 18 rest
  head_first = sym (take-append-drop 18 rest) ∙ ap (λ (h : List ℕ). h ++ drop 18 rest) (sym s.head_is)

  pub rest_long : length rest ≡ length bytes - begin
  rest_long = length-drop begin bytes

  pub rest_has : length head ≤ length bytes - begin
  rest_has = omega (arith, ap length head_first, length-append head (drop 18 rest), rest_long)

  -- less than eighteen bytes are all of a head
  pub rest_exact : length head < 18 → length bytes - begin ≡ length head
  rest_exact short = omega (arith, short, ap length s.head_is, length-take 18 rest, rest_long)

  pub tail_long : length (drop 18 rest) ≡ length bytes - begin - 18
  tail_long = omega (arith, length-drop 18 rest, rest_long)

  -- with more bytes after a whole head
  pub stands_over : (more : List ℕ) (to : ℕ) → length head ≡ 18 → to ≡ at + length more
      → StandsSealed seed place (bytes ++ more) laids begin to head
  stands_over more to whole is =
      subst (λ (h : List ℕ). StandsSealed seed place (bytes ++ more) laids begin to h) same_head
      (subst (λ (n : ℕ). StandsSealed seed place (bytes ++ more) laids begin n (take 18 (head ++ more))) (sym is)
      (stands_more more))
    where
      same_head : take 18 (head ++ more) ≡ head
      same_head = take_at head more 18 whole

  -- with more bytes of a head
  pub stands_filled : (piece new : List ℕ) (count to : ℕ) → count ≡ min (18 - length head) (length piece)
      → new ≡ head ++ take count piece → to ≡ at + count
      → StandsSealed seed place (bytes ++ take count piece) laids begin to new
  stands_filled piece new count to counted is at_is =
      let long : length (take count piece) ≡ count = length-take-le count piece (omega (arith, counted)) in
      let short : length (head ++ take count piece) ≤ 18 =
      omega (arith, length-append head (take count piece), long, counted, head_short) in
      let heads : take 18 (head ++ take count piece) ≡ new =
      take_all 18 (head ++ take count piece) short ∙ sym is in
      let places : at + length (take count piece) ≡ to = omega (arith, long, at_is) in
      subst (λ (n : ℕ). StandsSealed seed place (bytes ++ take count piece) laids begin n new) places
      (subst (λ (h : List ℕ).
      StandsSealed seed place (bytes ++ take count piece) laids begin (at + length (take count piece)) h) heads
      (stands_more (take count piece)))

  -- a record ends here
  module _ (item : Record) (whole : length head ≡ 18) (head_of : IsSealedHeadOf seed (place + begin) item head)
      (ends : length bytes - begin - 18 ≡ record_length item) where
    front : IsSealedFront seed (place + begin) item rest
    front =
        subst (IsSealedFront seed (place + begin) item) (sym head_first)
        (head_of (drop 18 rest) (omega (arith, tail_long, ends)))

    abbrev laid : Laid
    laid = laid_in item rest

    more_spelled : spell_laids seed place (laids ++ laid ∷ [])
        ≡ spell_laids seed place laids ++ spell_laid seed (place + begin) laid
    more_spelled =
        spell_push seed place laids laid
        ∙ ap (λ (n : ℕ). spell_laids seed place laids ++ spell_laid seed (place + n) laid) (sym s.begin_is)

    nothing_behind : drop ((18 + record_length item)) rest ≡ []
    nothing_behind = drop_all ((18 + record_length item)) rest (omega (arith, rest_long, ends, whole, rest_has))

    nothing_after : drop at bytes ≡ []
    nothing_after = drop_all at bytes (omega (arith, s.at_is))

    all_spelled : bytes ≡ spell_laids seed place (laids ++ laid ∷ [])
    all_spelled =
        s.begins
        ∙ ap (λ (l : List ℕ). spell_laids seed place laids ++ l)
        (front.spelled ∙ ap (λ (l : List ℕ). spell_laid seed (place + begin) laid ++ l) nothing_behind ∙ append-nil
        (spell_laid seed (place + begin) laid))
        ∙ sym more_spelled

    -- the reader after that record
    pub after_it : (sum : ℕ) → sum ≡ sum_in head → (new : SealedState) → new.seed ≡ seed → new.place ≡ place
        → new.head ≡ [] → new.left ≡ 0 → new.begin ≡ at → new.at ≡ at → FindsSealed bytes laids item sum begin new
    after_it sum sum_is new same_seed same_place no_head none begins_at is_at = record {
      begin_is =
          s.begin_is ∙ (λ i. length (spell_laids (sym same_seed i) (sym same_place i) laids));
      sum_is = sum_is ∙ sym (sum_again head (drop 18 rest) whole) ∙ ap sum_in (sym head_first);
      front =
          subst (λ (e : ℕ). IsSealedFront e (new.place + begin) item rest) (sym same_seed)
          (subst (λ (p : ℕ). IsSealedFront seed (p + begin) item rest) (sym same_place) front);
      after = record {
        stands =
            subst (λ (e : ℕ). StandsSealed e new.place bytes (laids ++ laid ∷ []) new.begin new.at new.head)
            (sym same_seed)
            (subst (λ (p : ℕ). StandsSealed seed p bytes (laids ++ laid ∷ []) new.begin new.at new.head)
            (sym same_place)
            (record {
              spelled = All-push IsLaid laids laid s.spelled front.valid;
              begins =
                  all_spelled ∙ sym (append-nil (spell_laids seed place (laids ++ laid ∷ [])))
                  ∙ ap (λ (l : List ℕ). spell_laids seed place (laids ++ laid ∷ []) ++ l)
                  (sym (ap (λ (n : ℕ). drop n bytes) begins_at ∙ nothing_after));
              begin_is = begins_at ∙ s.at_is ∙ ap length all_spelled;
              within = omega (arith, begins_at, s.at_is);
              at_is = is_at ∙ s.at_is;
              head_is = no_head ∙ ap (take 18) (sym (ap (λ (n : ℕ). drop n bytes) begins_at ∙ nothing_after));
            }));
        starts = λ short. none;
        under = λ long. absurd (omega (arith, long, ap length no_head));
        decoded = λ some. absurd (omega (arith, some, none));
      };
    }

  -- some byte follows the laids, and the rest begins with no record
  pub bad_rest : 1 ≤ length head → (BeginsWithLaid seed (place + begin) rest → ⊥) → IsUnsealedAt seed place bytes begin
  bad_rest some never = record {
    laids = laids;
    rest = rest;
    spelled = s.spelled;
    begins = s.begins;
    at_is = s.begin_is;
    some = λ none. omega (arith, some, ap length none, ap length head_first, length-append head (drop 18 rest));
    bad = never;
  }

  -- less than a head
  pub bad_short : 1 ≤ length head → length head < 18 → IsUnsealedAt seed place bytes begin
  bad_short some short =
      bad_rest some (none_short seed (place + begin) rest (omega (arith, rest_exact short, rest_long, short)))

  pub same_some : (x y : Record) → Some x ≡ Some y → x ≡ y
  same_some x y e = cc

  -- a head and less than its block
  pub bad_under : (item : Record) → length head ≡ 18 → sealed_item seed (place + begin) head ≡ Some item
      → length bytes - begin - 18 < record_length item → IsUnsealedAt seed place bytes begin
  bad_under item whole is short =
      bad_rest (omega (arith, whole)) (λ w. never (subst (BeginsWithLaid seed (place + begin)) head_first w))
    where
      never : BeginsWithLaid seed (place + begin) (head ++ drop 18 rest) → ⊥
      never w =
          let found = begins_item seed (place + begin) head (drop 18 rest) whole w in
          let same : item ≡ record_of w.0.change = same_some item (record_of w.0.change) (sym is ∙ found.0) in
          omega (arith, found.1, ap record_length same, tail_long, short)

  -- a head that gives no record
  pub bad_head : length head ≡ 18 → sealed_item seed (place + begin) head ≡ None → IsUnsealedAt seed place bytes begin
  bad_head whole is =
      bad_rest (omega (arith, whole)) (λ w. never (subst (BeginsWithLaid seed (place + begin)) head_first w))
    where
      never : BeginsWithLaid seed (place + begin) (head ++ drop 18 rest) → ⊥
      never w =
          let found = begins_item seed (place + begin) head (drop 18 rest) whole w in
          let e : None ≡ Some (record_of w.0.change) = sym is ∙ found.0 in cc

module _ (seed place : ℕ) (bytes : List ℕ) (laids : List Laid) (begin at : ℕ) (head : List ℕ)
    (s : StandsSealed seed place bytes laids begin at head) (bad : IsUnsealedAt seed place bytes begin) where
  abbrev there : List ℕ
  there = drop begin bytes

  as_error : (one other : SealedError) → other ≡ one → Refuses one seed place bytes → Refuses other seed place bytes
  as_error one other same is = subst (λ (e : SealedError). Refuses e seed place bytes) (sym same) is

  -- bytes that begin with no record are refused by what is there of the head
  pub refuses : Refuses (refusal_at seed (place + begin) head begin) seed place bytes
  refuses = elim (cases_lt (length head) 18) [
    | inl short ↦
        as_error (BadRecord begin) (refusal_at seed (place + begin) head begin)
        (cond-true (nat_lt (length head) 18) (BadRecord begin)
        (if is_summed seed (place + begin) head then BadRecord begin else BadSum begin)
        (lt-ltb (length head) 18 short))
        (bad, λ w. omega (arith, w.0, short, ap length s.head_is, length-take 18 there))
    | inr long ↦ elim (cases_Bool (is_summed seed (place + begin) head)) [
      | inl sums ↦
          as_error (BadRecord begin) (refusal_at seed (place + begin) head begin)
          (whole long ∙ cond-true (is_summed seed (place + begin) head) (BadRecord begin) (BadSum begin) sums)
          (bad, λ w. let e : true ≡ false = sym sums ∙ ap (is_summed seed (place + begin)) s.head_is ∙ w.1 in cc)
      | inr fails ↦
          as_error (BadSum begin) (refusal_at seed (place + begin) head begin)
          (whole long ∙ cond-false (is_summed seed (place + begin) head) (BadRecord begin) (BadSum begin) fails) (
            bad,
            (
              omega (arith, long, ap length s.head_is, length-take 18 there),
              sym (ap (is_summed seed (place + begin)) s.head_is) ∙ fails,
            ),
          )
    ]
  ]
    where
      whole : 18 ≤ length head → refusal_at seed (place + begin) head begin
          ≡ (if is_summed seed (place + begin) head then BadRecord begin else BadSum begin)
      whole long =
          cond-false (nat_lt (length head) 18) (BadRecord begin)
          (if is_summed seed (place + begin) head then BadRecord begin else BadSum begin)
          (le-ltb (length head) 18 long)

-- a head that gives no record, whatever follows
pub bad_for_ever : (seed place : ℕ) (bytes : List ℕ) (laids : List Laid) (begin at : ℕ) (head : List ℕ)
    → StandsSealed seed place bytes laids begin at head → length head ≡ 18
    → sealed_item seed (place + begin) head ≡ None → (more : List ℕ)
    → Refuses (refusal_at seed (place + begin) head begin) seed place (bytes ++ more)
bad_for_ever seed place bytes laids begin at head s whole is more =
    let over = stands_over seed place bytes laids begin at head s more (at + length more) whole refl in
    refuses seed place (bytes ++ more) laids begin (at + length more) head over
    (bad_head seed place (bytes ++ more) laids begin (at + length more) head over whole is)
