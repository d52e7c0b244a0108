-- Lists of places: which are filled, how many are, and what is at one.
use Rattle.std.proofs.Common.{◌≡◌, ◌≤◌, ◌<◌, ◌+◌, ◌-◌, ◌⊎◌, inl, inr, ℕ, nat_le, Bool, true, false, List, [], ◌∷◌, ◌++◌, length, get_or, take, Option, None, Some, is_some, cond, refl, ◌∙◌, ap, sym, arith}
use Rattle.std.proofs.lemmas.Bool.Decides.{nat_tests}
use Rattle.std.proofs.lemmas.List.{get_or-map, length-map, map-append, take_more}
use Rattle.std.proofs.lemmas.List.Sums.{sum_by-cons, sum_by_more_le, sum_by_push}
use Rattle.std.proofs.Math.ListN.{get_or-eq_default}
use Rattle.library.specs.Counts.{has_drive, one_if_there, places_filled, which_are_there}

-- the entry of a number in a list
pub said_at : (row : List Bool) (number : ℕ) → 1 ≤ number → has_drive row number ≡ get_or row (number - 1) false
said_at row number least =
    let is : nat_le 1 number ≡ true = grind (arith, nat_tests) in
    ap (λ (b : Bool). cond b (get_or row (number - 1) false) false) is

-- a list has no drive for a number without a place
pub said_nowhere : (row : List Bool) (number : ℕ) → (number ≡ 0) ⊎ (length row < number) → has_drive row number ≡ false
said_nowhere row number (inl zero) =
    let is : nat_le 1 number ≡ false = grind (arith, nat_tests) in
    ap (λ (b : Bool). cond b (get_or row (number - 1) false) false) is
said_nowhere row number (inr beyond) =
    said_at row number (omega (arith, beyond)) ∙ get_or-eq_default row false (omega (arith, beyond))

first_of : List Bool → Bool
first_of [] = false
first_of (b ∷ bs) = b

rest_of : List Bool → List Bool
rest_of [] = []
rest_of (b ∷ bs) = bs

module _ {X : Type 0} where
  -- there is a drive of a number if its place is filled
  pub there_at : (row : List (Option X)) (number : ℕ) → 1 ≤ number → number ≤ length row
      → has_drive (which_are_there row) number ≡ is_some (get_or row (number - 1) None)
  there_at row number least most =
      said_at (which_are_there row) number least
      ∙ get_or-map (is_some {T = X}) row (number - 1) None false (omega (arith, least, most))

  -- the same for a place
  pub there_in : (row : List (Option X)) (place : ℕ) → place < length row
      → has_drive (which_are_there row) (place + 1) ≡ is_some (get_or row place None)
  there_in row place within =
      let is : place + 1 - 1 ≡ place = omega arith in
      there_at row (place + 1) (omega arith) (omega (arith, within))
      ∙ ap (λ (at : ℕ). is_some (get_or row at None)) is

  -- one more place of a list that is gone through
  pub more_there : (row : List (Option X)) (place : ℕ) → place < length row
      → which_are_there (take (place + 1) row)
      ≡ which_are_there (take place row) ++ is_some (get_or row place None) ∷ []
  more_there row place within =
      ap (which_are_there {X = X}) (take_more row place None within)
      ∙ map-append (is_some {T = X}) (take place row) (get_or row place None ∷ [])

  pub more_filled : (row : List (Option X)) (place : ℕ) → place < length row
      → places_filled (take (place + 1) row) ≡ places_filled (take place row) + one_if_there (get_or row place None)
  more_filled row place within =
      ap (places_filled {X = X}) (take_more row place None within)
      ∙ sum_by_push (one_if_there {X = X}) (take place row) (get_or row place None)

  pub room_for : (row : List (Option X)) (place : ℕ) → place < length row
      → places_filled (take place row) + one_if_there (get_or row place None) ≤ places_filled row
  room_for row place within = sum_by_more_le (one_if_there {X = X}) row place None within

  -- where the same places are filled, as many are
  pub same_one : {Y : Type 0} (x : Option X) (y : Option Y) → is_some x ≡ is_some y → one_if_there x ≡ one_if_there y
  same_one None None same = refl
  same_one (Some x) (Some y) same = refl
  same_one None (Some y) same = absurd (cc)
  same_one (Some x) None same = absurd (cc)

  -- lists with the same places filled are equally long, and have as many filled
  pub same_length : {Y : Type 0} (xs : List (Option X)) (ys : List (Option Y)) → which_are_there xs ≡ which_are_there ys
      → length xs ≡ length ys
  same_length {Y = Y} xs ys same =
      sym (length-map xs (is_some {T = X})) ∙ ap length same ∙ length-map ys (is_some {T = Y})

  pub same_filled : {Y : Type 0} (xs : List (Option X)) (ys : List (Option Y)) → which_are_there xs ≡ which_are_there ys
      → places_filled xs ≡ places_filled ys
  unfolding first_of rest_of
  same_filled [] [] same = refl
  same_filled {Y = Y} (x ∷ xs) (y ∷ ys) same =
      omega (
        arith,
        sum_by-cons (one_if_there {X = X}) x xs,
        sum_by-cons (one_if_there {X = Y}) y ys,
        same_one x y (ap first_of same),
        same_filled xs ys (ap rest_of same),
      )
  same_filled [] (y ∷ ys) same = absurd (cc)
  same_filled (x ∷ xs) [] same = absurd (cc)

  -- there is no drive at an address that is no drive's
  pub nowhere_there : (row : List (Option X)) (number : ℕ) → length row ≡ 16 → (number ≡ 0) ⊎ (16 < number)
      → has_drive (which_are_there row) number ≡ false
  nowhere_there row number long (inl zero) = said_nowhere (which_are_there row) number (inl zero)
  nowhere_there row number long (inr beyond) =
      said_nowhere (which_are_there row) number
      (inr (omega (arith, length-map row (is_some {T = X}), long, beyond)))

-- where the same places of two lists are filled, a place of one is filled where that of the other is
pub alike_at : {X Y : Type 0} (row : List (Option X)) (other : List (Option Y)) (place : ℕ)
    → place < length row → which_are_there row ≡ which_are_there other
    → is_some (get_or row place None) ≡ is_some (get_or other place None)
alike_at {X = X} {Y = Y} row other place within same =
    let long : length row ≡ length other = same_length row other same in
    sym (get_or-map (is_some {T = X}) row place None false within)
    ∙ ap (λ (l : List Bool). get_or l place false) same
    ∙ get_or-map (is_some {T = Y}) other place None false (omega (arith, within, long))
