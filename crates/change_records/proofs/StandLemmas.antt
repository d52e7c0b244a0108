-- The state of a reader, a step further.
use Rattle.std.proofs.Common.{◌≡◌, inl, inr, ℕ, zero, suc, ◌<◌, ◌≤◌, ◌+◌, ◌-◌, List, [], ◌∷◌, ◌++◌, length, take, drop, refl, sym, ◌∙◌, ap, subst, arith, take-append-drop, Some, None, append_assoc, length-append, length-drop}
use Rattle.std.specs.Prelude.{Option, min}
use Rattle.std.proofs.lemmas.List.{append-nil, drop-append-le, drop_all, length-take, length-take-le, take_all, take_at}
use Rattle.std.proofs.lemmas.Bool.{cases_lt}
use Rattle.std.proofs.lemmas.List.Concat.{flat_map-append}
use Rattle.std.proofs.lemmas.List.Elements.{All-nil, All-push}
use Rattle.volume_core.specs.declared.changes.Change.{Change}
use Rattle.change_records.specs.declared.records.Record.{Record}
use Rattle.change_records.specs.declared.records.Record.TheVariants as Records
use Rattle.change_records.specs.Records.{BeginsWithRecord, IsAtFront, IsBadAt, IsRecord, SpellsAll, change_in, record_length, record_of, size_of, spell_all, spell_change}
use Rattle.change_records.specs.Readers.{Finds, IsAfter, IsHeadOf, IsLeft, IsDecoded, ReaderState, Stands, head_item}
use Rattle.change_records.proofs.HeadLemmas.{begins_item, none_short}

pub take_of_take : (n : ℕ) (xs ys : List ℕ) → take n (take n xs ++ ys) ≡ take n (xs ++ ys)
take_of_take zero xs ys = refl
take_of_take (suc n) [] ys = refl
take_of_take (suc n) (x ∷ xs) ys = ap (λ (l : List ℕ). x ∷ l) (take_of_take n xs ys)

pub size_is : (item : Record) → size_of item ≡ 10 + record_length item
size_is (Records.Put part at size) = refl
size_is (Records.Marks part at count) = refl
size_is (Records.Erase part at) = refl

pub stands_none : Stands [] [] 0 0 []
stands_none = record {
  spelled = All-nil IsRecord;
  begins = refl;
  begin_is = refl;
  within = omega arith;
  at_is = refl;
  head_is = refl;
}

module _ (bytes : List ℕ) (changes : List Change) (begin at : ℕ) (head : List ℕ)
    (s : Stands bytes changes begin at head) where
  abbrev rest : List ℕ
  rest = drop begin bytes

  pub rest_more : (more : List ℕ) → drop begin (bytes ++ more) ≡ rest ++ more
  rest_more more = drop-append-le begin bytes more s.within

  -- with more bytes
  pub stands_more : (more : List ℕ) → Stands (bytes ++ more) changes begin (at + length more) (take 10 (head ++ more))
  stands_more more = record {
    spelled = s.spelled;
    begins =
        ap (λ (l : List ℕ). l ++ more) s.begins ∙ append_assoc (spell_all changes) rest more
        ∙ ap (λ (l : List ℕ). spell_all changes ++ l) (sym (rest_more more));
    begin_is = s.begin_is;
    within = omega (arith, s.within, length-append bytes more);
    at_is = omega (arith, s.at_is, length-append bytes more);
    head_is =
        ap (λ (h : List ℕ). take 10 (h ++ more)) s.head_is ∙ take_of_take 10 rest more
        ∙ ap (take 10) (sym (rest_more more));
  }

  pub head_short : length head ≤ 10
  head_short = omega (arith, ap length s.head_is, length-take 10 rest)

  -- the head, and then what follows it
  pub head_first : rest ≡ head ++ drop 10 rest
  head_first = sym (take-append-drop 10 rest) ∙ ap (λ (h : List ℕ). h ++ drop 10 rest) (sym s.head_is)

  pub rest_long : length rest ≡ length bytes - begin
  rest_long = length-drop begin bytes

  pub rest_has : length head ≤ length bytes - begin
  rest_has = omega (arith, ap length head_first, length-append head (drop 10 rest), rest_long)

  -- less than ten bytes are all of a head
  pub rest_exact : length head < 10 → length bytes - begin ≡ length head
  rest_exact short = omega (arith, short, ap length s.head_is, length-take 10 rest, rest_long)

  pub tail_long : length (drop 10 rest) ≡ length bytes - begin - 10
  tail_long = omega (arith, length-drop 10 rest, rest_long)

  -- with more bytes after a whole head
  pub stands_over : (more : List ℕ) (to : ℕ) → length head ≡ 10 → to ≡ at + length more
      → Stands (bytes ++ more) changes begin to head
  stands_over more to whole is =
      subst (λ (h : List ℕ). Stands (bytes ++ more) changes begin to h) same_head
      (subst (λ (n : ℕ). Stands (bytes ++ more) changes begin n (take 10 (head ++ more))) (sym is) (stands_more more))
    where
      same_head : take 10 (head ++ more) ≡ head
      same_head = take_at head more 10 whole

  -- with more bytes of a head
  pub stands_filled : (piece new : List ℕ) (count to : ℕ) → count ≡ min (10 - length head) (length piece)
      → new ≡ head ++ take count piece → to ≡ at + count → Stands (bytes ++ take count piece) changes begin to new
  stands_filled piece new count to counted is at_is =
      let long : length (take count piece) ≡ count = length-take-le count piece (omega (arith, counted)) in
      let short : length (head ++ take count piece) ≤ 10 =
      omega (arith, length-append head (take count piece), long, counted, head_short) in
      let heads : take 10 (head ++ take count piece) ≡ new =
      take_all 10 (head ++ take count piece) short ∙ sym is in
      let places : at + length (take count piece) ≡ to = omega (arith, long, at_is) in
      subst (λ (n : ℕ). Stands (bytes ++ take count piece) changes begin n new) places
      (subst (λ (h : List ℕ). Stands (bytes ++ take count piece) changes begin (at + length (take count piece)) h) heads
      (stands_more (take count piece)))

  -- a record ends here
  module _ (item : Record) (whole : length head ≡ 10) (head_of : IsHeadOf item head)
      (ends : length bytes - begin - 10 ≡ record_length item) where
    front : IsAtFront item rest
    front =
        subst (IsAtFront item) (sym head_first) (head_of (drop 10 rest) (omega (arith, tail_long, ends)))

    abbrev change : Change
    change = change_in item rest

    more_spelled : spell_all (changes ++ change ∷ []) ≡ spell_all changes ++ spell_change change
    more_spelled =
        flat_map-append spell_change changes (change ∷ [])
        ∙ ap (λ (l : List ℕ). spell_all changes ++ l) (append-nil (spell_change change))

    nothing_behind : drop (size_of item) rest ≡ []
    nothing_behind = drop_all (size_of item) rest (omega (arith, size_is item, rest_long, ends, whole, rest_has))

    nothing_after : drop at bytes ≡ []
    nothing_after = drop_all at bytes (omega (arith, s.at_is))

    all_spelled : bytes ≡ spell_all (changes ++ change ∷ [])
    all_spelled =
        s.begins
        ∙ ap (λ (l : List ℕ). spell_all changes ++ l)
        (front.spelled ∙ ap (λ (l : List ℕ). spell_change change ++ l) nothing_behind ∙ append-nil
        (spell_change change))
        ∙ sym more_spelled

    -- the reader after that record
    pub after_it : (new : ReaderState) → new.head ≡ [] → new.left ≡ 0 → new.begin ≡ at → new.at ≡ at
        → Finds bytes changes item begin new
    after_it new no_head none begins_at is_at = record {
      place = s.begin_is;
      front = front;
      after = record {
        stands = record {
          spelled = All-push IsRecord changes change s.spelled front.valid;
          begins =
              all_spelled ∙ sym (append-nil (spell_all (changes ++ change ∷ [])))
              ∙ ap (λ (l : List ℕ). spell_all (changes ++ change ∷ []) ++ l)
              (sym (ap (λ (n : ℕ). drop n bytes) begins_at ∙ nothing_after));
          begin_is = begins_at ∙ s.at_is ∙ ap length all_spelled;
          within = omega (arith, begins_at, s.at_is);
          at_is = is_at ∙ s.at_is;
          head_is = no_head ∙ ap (take 10) (sym (ap (λ (n : ℕ). drop n bytes) begins_at ∙ nothing_after));
        };
        starts = λ short. none;
        under = λ long. absurd (omega (arith, long, ap length no_head));
        decoded = λ some. absurd (omega (arith, some, none));
      };
    }

  -- some byte follows the changes, and the rest begins with no record
  pub bad_rest : 1 ≤ length head → (BeginsWithRecord rest → ⊥) → IsBadAt bytes begin
  bad_rest some never = record {
    changes = changes;
    rest = rest;
    spelled = s.spelled;
    begins = s.begins;
    at_is = s.begin_is;
    some = λ none. omega (arith, some, ap length none, ap length head_first, length-append head (drop 10 rest));
    bad = never;
  }

  -- less than a head
  pub bad_short : 1 ≤ length head → length head < 10 → IsBadAt bytes begin
  bad_short some short =
      bad_rest some (none_short rest (omega (arith, rest_exact short, rest_long, short)))

  pub same_some : (x y : Record) → Some x ≡ Some y → x ≡ y
  same_some x y e = cc

  -- a head and less than its block
  pub bad_under : (item : Record) → length head ≡ 10 → head_item head ≡ Some item
      → length bytes - begin - 10 < record_length item → IsBadAt bytes begin
  bad_under item whole is short =
      bad_rest (omega (arith, whole)) (λ w. never (subst BeginsWithRecord head_first w))
    where
      never : BeginsWithRecord (head ++ drop 10 rest) → ⊥
      never w =
          let found = begins_item head (drop 10 rest) whole w in
          let same : item ≡ record_of w.0 = same_some item (record_of w.0) (sym is ∙ found.0) in
          omega (arith, found.1, ap record_length same, tail_long, short)

  -- a head that gives no record
  pub bad_head : length head ≡ 10 → head_item head ≡ None → IsBadAt bytes begin
  bad_head whole is =
      bad_rest (omega (arith, whole)) (λ w. never (subst BeginsWithRecord head_first w))
    where
      never : BeginsWithRecord (head ++ drop 10 rest) → ⊥
      never w =
          let found = begins_item head (drop 10 rest) whole w in
          let e : None ≡ Some (record_of w.0) = sym is ∙ found.0 in cc

-- a head that gives no record, whatever follows
pub bad_for_ever : (bytes : List ℕ) (changes : List Change) (begin at : ℕ) (head : List ℕ)
    → Stands bytes changes begin at head → length head ≡ 10 → head_item head ≡ None → (more : List ℕ)
    → IsBadAt (bytes ++ more) begin
bad_for_ever bytes changes begin at head s whole is more =
    bad_head (bytes ++ more) changes begin (at + length more) head
    (stands_over bytes changes begin at head s more (at + length more) whole refl) whole is
