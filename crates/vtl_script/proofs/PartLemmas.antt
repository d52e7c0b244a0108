-- Parts of a list, and the first element of a kind.
use Rattle.std.proofs.Common.{◌≡◌, ℕ, ◌≤◌, Bool, true, false, not, ◌||◌, List, [], ◌∷◌, ◌++◌, length, Some, position, refl, ap, ◌∙◌, arith}
use Rattle.std.proofs.lemmas.Bool.Decides.{nat_tests}
use Rattle.std.proofs.lemmas.List.{length-append}
use Rattle.std.proofs.lemmas.List.Splits.{slice_split-cons_yes, slice_split-cons_no}
use Rattle.std.proofs.lemmas.List.Folds.{prefix_len-append}
use Rattle.std.specs.List.{slice_split, onto_first, list_any, position_or_len}
use Rattle.vtl_script.proofs.SplitLemmas.{found}

-- a text has a first part
pub record HasFirst {X : Type 0} (p : X → Bool) (xs : List X) : Type 0 where
  pub part : List X
  pub parts : List (List X)
  pub splits : slice_split p xs ≡ part ∷ parts

first_with : {X : Type 0} (p : X → Bool) (x : X) (xs : List X) (b : Bool) → p x ≡ b → HasFirst p xs
    → HasFirst p (x ∷ xs)
first_with p x xs true is rest = record { part = []; parts = slice_split p xs; splits = slice_split-cons_yes p x xs is }
first_with p x xs false is rest = record
    { part = x ∷ rest.part; parts = rest.parts; splits = slice_split-cons_no p x xs is ∙ ap (onto_first x) rest.splits }

pub first_of_split : {X : Type 0} (p : X → Bool) (xs : List X) → HasFirst p xs
first_of_split p [] = record { part = []; parts = []; splits = refl }
first_of_split p (x ∷ xs) = first_with p x xs (p x) refl (first_of_split p xs)

front_with : {X : Type 0} (p : X → Bool) (x : X) (xs ys part : List X) (parts : List (List X)) (b : Bool) → p x ≡ b
    → (b || list_any p xs) ≡ false → (list_any p xs ≡ false → slice_split p (xs ++ ys) ≡ (xs ++ part) ∷ parts)
    → slice_split p (x ∷ (xs ++ ys)) ≡ (x ∷ (xs ++ part)) ∷ parts
front_with p x xs ys part parts true is none rest = absurd (cc)
front_with p x xs ys part parts false is none rest = slice_split-cons_no p x (xs ++ ys) is
    ∙ ap (onto_first x) (rest none)

-- what has no end of a part goes onto the first part of the rest
pub split_front : {X : Type 0} (p : X → Bool) (xs ys part : List X) (parts : List (List X)) → list_any p xs ≡ false
    → slice_split p ys ≡ part ∷ parts → slice_split p (xs ++ ys) ≡ (xs ++ part) ∷ parts
split_front p [] ys part parts none h = h
split_front p (x ∷ xs) ys part parts none h = front_with p x xs ys part parts (p x) refl none
    (λ rest. split_front p xs ys part parts rest h)

none_with : {X : Type 0} (p : X → Bool) (x : X) (xs : List X) (b : Bool) → p x ≡ b
    → length (x ∷ xs) ≤ position_or_len p (x ∷ xs) → (length xs ≤ position_or_len p xs → list_any p xs ≡ false)
    → (p x || list_any p xs) ≡ false
none_with p x xs true is h rest = absurd (let k = rw is at h in omega (arith, k))
none_with p x xs false is h rest = rw is (rest (let k = rw is at h in omega (arith, k)))

pub none_of : {X : Type 0} (p : X → Bool) (xs : List X) → length xs ≤ position_or_len p xs → list_any p xs ≡ false
none_of p [] h = refl
none_of p (x ∷ xs) h = none_with p x xs (p x) refl h (none_of p xs)

-- the place of the first stays, whatever follows
pub position_append : (p : ℕ → Bool) (xs ys : List ℕ) (i : ℕ) → position p xs ≡ Some i → position p (xs ++ ys) ≡ Some i
position_append p xs ys i h =
    let is = found p xs i h in
    let both = prefix_len-append (λ (x : ℕ). not (p x)) xs ys in
    let long = length-append xs ys in
    let at : position_or_len p (xs ++ ys) ≡ i = grind (arith, nat_tests, both, is.place, is.within) in
    grind (arith, nat_tests, at, long, is.place, is.within)
