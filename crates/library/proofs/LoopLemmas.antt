-- Loops over the places of a list.
use Rattle.std.proofs.Common.{◌≡◌, ◌≤◌, ◌<◌, ◌+◌, ℕ, List, [], ◌∷◌, ◌++◌, length, get_or, set, take, drop, Option, None, Result, Ok, sym, ap, ◌∙◌, subst, arith}
use Rattle.std.proofs.lemmas.List.{append-nil, append_assoc, drop_all, get_or-map, length-map, take_more, take_more_set}
use Rattle.std.proofs.lemmas.Grind.{drop-set_at}
use Rattle.std.proofs.Math.Seq.{drop-append_seam, take-length}
use Rattle.std.specs.Prelude.{is_some, OnErr, OnOk}
use Rattle.tape_disk.specs.Disk.{DiskState}
use Rattle.ledgers.specs.Ledgers.{Gathered, no_share}
use Rattle.bay_moves.specs.Elements.{BayState}
use Rattle.bay_moves.specs.Finish.{HasFailedAt, IsWrittenAt}
use Rattle.bay_moves.specs.declared.finishing.Unwritten.{Unwritten}
use Rattle.library.specs.Counts.{count_of_drive, one_if_there, or_none}
use Rattle.library.specs.Ends.{counts_of}
use Rattle.library.specs.Inner.Ending.{HaveEnded, worse_of}
use Rattle.library.specs.Keeps.{IsLeftAt}
use Rattle.library.proofs.EndLemmas.{none_ended, one_ended}

module _ {Y : Type 0} where
  -- the rest before an element that was taken off the end
  pub popped : (all items : List Y) (x : Y) (rest : List Y) → all ≡ (items ++ x ∷ []) ++ rest → all ≡ items ++ x ∷ rest
  popped all items x rest is = is ∙ append_assoc items (x ∷ []) rest

  pub behind : (all items : List Y) (x : Y) (rest : List Y) (k : ℕ) → all ≡ items ++ x ∷ rest → length items ≡ k
      → drop k all ≡ x ∷ rest
  behind all items x rest k is long =
      ap (λ (l : List Y). drop k l) is
      ∙ subst (λ (n : ℕ). drop n (items ++ x ∷ rest) ≡ x ∷ rest) long (drop-append_seam items (x ∷ rest))

  pub left_on : (all items : List Y) (x : Y) (rest : List Y) (k : ℕ) → all ≡ (items ++ x ∷ []) ++ rest
      → length items ≡ k → all ≡ items ++ drop k all
  left_on all items x rest k is long =
      let so = popped all items x rest is in
      so ∙ ap (λ (l : List Y). items ++ l) (sym (behind all items x rest k so long))

  pub all_left : (all : List Y) (n : ℕ) → length all ≤ n → all ≡ all ++ drop n all
  all_left all n most = sym (ap (λ (l : List Y). all ++ l) (drop_all n all most) ∙ append-nil all)

  whole : (n : ℕ) (l : List Y) → length l ≡ n → take n l ≡ l
  whole n l is = subst (λ (k : ℕ). take k l ≡ l) is (take-length l)

  -- two lists that are the same as far as they go
  pub alike : (n : ℕ) (xs ys : List Y) → length xs ≡ n → length ys ≡ n → take n xs ≡ take n ys → xs ≡ ys
  alike n xs ys one two same = sym (whole n xs one) ∙ same ∙ whole n ys two

module _ {D : Type 0} (state : D → DiskState) where
  -- no drive has ended before the first is taken
  pub ends_begin : {X : Type 0} (shared : List (Option X)) (row : List (Option (BayState D))) (gathered : Gathered)
      (n : ℕ)
      → length shared ≤ n → length row ≤ n → gathered ≡ no_share
      → HaveEnded state (drop n shared) (drop n row) gathered (Ok tt)
  ends_begin shared row gathered n most many is =
      none_ended state (drop n shared) (drop n row) gathered (ap length (drop_all n shared most))
      (ap length (drop_all n row many)) is

  -- one more drive has ended, and is in the list
  pub ended_on : {X : Type 0} (all items : List (Option X)) (x : Option X) (row row' : List (Option (BayState D)))
      (k n at : ℕ) (bay : Option (BayState D)) (old new : Gathered) (one before after : Result Unit Unwritten)
      → all ≡ (items ++ x ∷ []) ++ drop n all → length items ≡ k → k + 1 ≡ n → at ≡ k → n ≤ 16 → length row ≡ 16
      → row' ≡ set row at bay → after ≡ worse_of before one → is_some bay ≡ is_some x
      → new.shares ≡ old.shares + one_if_there x → new.changes ≡ old.changes + or_none (count_of_drive bay)
      → IsLeftAt state bay → OnOk one (IsWrittenAt state bay) → OnErr one (HasFailedAt state bay)
      → HaveEnded state (drop n all) (drop n row) old before → HaveEnded state (drop k all) (drop k row') new after
  ended_on {X = X} all items x row row' k n at bay old new one before after is long next here most sixteen put worse
      there shares changes left ok err so =
      let first : drop k all ≡ x ∷ drop n all =
      behind all items x (drop n all) k (popped all items x (drop n all) is) long in
      let second : drop k row' ≡ bay ∷ drop n row =
      ap (λ (l : List (Option (BayState D))). drop k l) put
      ∙ drop-set_at row at k bay (sym here) (omega (arith, here, next, most, sixteen))
      ∙ ap (λ (i : ℕ). bay ∷ drop i row) (omega (arith, here, next)) in
      let done =
      one_ended state x (drop n all) bay (drop n row) old new one before there shares changes left ok err so in
      subst (λ (r : Result Unit Unwritten). HaveEnded state (drop k all) (drop k row') new r) (sym worse)
      (subst (λ (l : List (Option X)). HaveEnded state l (drop k row') new (worse_of before one)) (sym first)
      (subst (λ (l : List (Option (BayState D))). HaveEnded state (x ∷ drop n all) l new (worse_of before one))
      (sym second) done))

module _ {D : Type 0} where
  -- one more count of a list
  pub counted_on : (counts : List (Option ℕ)) (row : List (Option (BayState D))) (place : ℕ) (count : Option ℕ)
      → length counts ≡ 16 → length row ≡ 16 → place < 16 → count ≡ count_of_drive (get_or row place None)
      → take place counts ≡ take place (counts_of row)
      → take (place + 1) (set counts place count) ≡ take (place + 1) (counts_of row)
  counted_on counts row place count long sixteen within is same =
      let there : place < length (counts_of row) =
      omega (arith, within, sixteen, length-map row (count_of_drive {D = D})) in
      let at : get_or (counts_of row) place None ≡ count =
      get_or-map (count_of_drive {D = D}) row place None None (omega (arith, within, sixteen)) ∙ sym is in
      take_more_set counts place count (omega (arith, within, long))
      ∙ ap (λ (l : List (Option ℕ)). l ++ count ∷ []) same
      ∙ sym (take_more (counts_of row) place None there
      ∙ ap (λ (c : Option ℕ). take place (counts_of row) ++ c ∷ []) at)

  pub counted_all : (counts : List (Option ℕ)) (row : List (Option (BayState D))) → length counts ≡ 16
      → length row ≡ 16 → take 16 counts ≡ take 16 (counts_of row) → counts ≡ counts_of row
  counted_all counts row long sixteen same =
      alike 16 counts (counts_of row) long (omega (arith, sixteen, length-map row (count_of_drive {D = D}))) same
