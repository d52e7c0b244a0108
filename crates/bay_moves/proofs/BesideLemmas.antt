-- The values that belong to lines, drive by drive.
use Rattle.std.proofs.Common.{◌≡◌, ℕ, ◌==◌, Bool, true, false, List, [], ◌∷◌, cond, filter, length, map, refl, sym, ap, ◌∙◌, arith}
use Rattle.std.proofs.lemmas.Bool.{eqb-true, eq-eqb}
use Rattle.vtl_script.specs.declared.lines.Line.{Line}
use Rattle.bay_moves.specs.OneHost.{beside}

module _ {A : Type 0} where
  -- the first value, or this one
  abbrev first_or : A → List A → A
  first_or nothing [] = nothing
  first_or nothing (x ∷ xs) = x

  -- all values but the first
  abbrev rest_of : List A → List A
  rest_of [] = []
  rest_of (x ∷ xs) = xs

  -- the rest after the first value was taken, if it was
  abbrev left_by : Bool → List A → List A
  left_by true values = rest_of values
  left_by false values = values

  -- no values belong to no lines
  nothing_by : (test : Bool) (line : Line) (lines : List Line) (value : A) (values : List A)
      → cond test (line ∷ lines) lines ≡ [] → (lines ≡ [] → values ≡ []) → cond test (value ∷ values) values ≡ []
  nothing_by true line lines value values is none = absurd (cc)
  nothing_by false line lines value values is none = none is

  pub beside_nothing : (number : ℕ) (lines : List Line) (values : List A)
      → filter (λ line. line.drive == number) lines ≡ [] → beside number lines values ≡ []
  beside_nothing number [] values is = refl
  beside_nothing number (line ∷ lines) [] is = refl
  beside_nothing number (line ∷ lines) (value ∷ values) is =
      nothing_by (line.drive == number) line (filter (λ line. line.drive == number) lines) value
      (beside number lines values) is (λ none. beside_nothing number lines values none)

  -- two lists of values that are the same for the lines of each drive are the same
  rest_same : (test : Bool) (x y : A) (xs ys : List A) → cond test (x ∷ xs) xs ≡ cond test (y ∷ ys) ys → xs ≡ ys
  rest_same true x y xs ys is = ap (λ (l : List A). rest_of l) is
  rest_same false x y xs ys is = is

  its_own : (number : ℕ) (x : A) (xs : List A) → cond (number == number) (x ∷ xs) xs ≡ x ∷ xs
  its_own number x xs = ap (λ (b : Bool). cond b (x ∷ xs) xs) (eq-eqb number number refl)

  pub same_beside : (lines : List Line) (xs ys : List A) → length xs ≡ length lines
      → length ys ≡ length lines → ((number : ℕ) → beside number lines xs ≡ beside number lines ys) → xs ≡ ys
  same_beside [] [] [] long size same = refl
  same_beside [] [] (y ∷ ys) long size same = absurd (omega (arith, size))
  same_beside [] (x ∷ xs) ys long size same = absurd (omega (arith, long))
  same_beside (line ∷ lines) [] ys long size same = absurd (omega (arith, long))
  same_beside (line ∷ lines) (x ∷ xs) [] long size same = absurd (omega (arith, size))
  same_beside (line ∷ lines) (x ∷ xs) (y ∷ ys) long size same =
      let here : x ∷ beside line.drive lines xs ≡ y ∷ beside line.drive lines ys =
      sym (its_own line.drive x (beside line.drive lines xs)) ∙ same line.drive
      ∙ its_own line.drive y (beside line.drive lines ys) in
      let head : x ≡ y = ap (λ (l : List A). first_or x l) here in
      let tail : xs ≡ ys =
      same_beside lines xs ys (omega (arith, long)) (omega (arith, size))
      (λ number. rest_same (line.drive == number) x y (beside number lines xs) (beside number lines ys) (same number))
      in
      λ i. head i ∷ tail i

  -- a value is put back where it was taken
  put_back : (test : Bool) (x : A) (hand xs : List A) → xs ≡ left_by test hand
      → (test ≡ true → (rest : List A) × (hand ≡ x ∷ rest)) → cond test (x ∷ xs) xs ≡ hand
  put_back true x hand xs is first =
      let found = first refl in
      ap (λ (l : List A). x ∷ l) (is ∙ ap (λ (l : List A). rest_of l) found.1) ∙ sym found.1
  put_back false x hand xs is first = is

module _ {A B : Type 0} (f : A → B) where
  -- a mapped value belongs to the same line
  chosen_map : (test : Bool) (value : A) (values : List A) (made : List B) → made ≡ map f values
      → cond test (f value ∷ made) made ≡ map f (cond test (value ∷ values) values)
  chosen_map true value values made is = ap (λ (rest : List B). f value ∷ rest) is
  chosen_map false value values made is = is

  pub beside_map : (number : ℕ) (lines : List Line) (values : List A)
      → beside number lines (map f values) ≡ map f (beside number lines values)
  beside_map number [] values = refl
  beside_map number (line ∷ lines) [] = refl
  beside_map number (line ∷ lines) (value ∷ values) =
      chosen_map (line.drive == number) value (beside number lines values) (beside number lines (map f values))
      (beside_map number lines values)

  -- the values of all lines, from those of each drive
  none_made : (xs : List A) → map f xs ≡ [] → xs ≡ []
  none_made [] is = refl
  none_made (x ∷ xs) is = absurd (cc)

  first_made : (xs : List A) (y : B) (ys : List B) → map f xs ≡ y ∷ ys
      → (x : A) × (rest : List A) × (xs ≡ x ∷ rest) × (f x ≡ y)
  first_made [] y ys is = absurd (cc)
  first_made (x ∷ xs) y ys is = (x, xs, refl, ap (λ (l : List B). first_or y l) is)

  left_made : (test : Bool) (y : B) (ys : List B) (xs : List A)
      → map f xs ≡ cond test (y ∷ ys) ys → map f (left_by test xs) ≡ ys
  left_made true y ys [] is = absurd (cc)
  left_made true y ys (x ∷ xs) is = ap (λ (l : List B). rest_of l) is
  left_made false y ys xs is = is

  pub dealt : (lines : List Line) (values : List B) (hands : ℕ → List A)
      → length values ≡ length lines → ((number : ℕ) → map f (hands number) ≡ beside number lines values)
      → (xs : List A) × (map f xs ≡ values) × ((number : ℕ) → beside number lines xs ≡ hands number)
  dealt [] [] hands long made = ([], refl, λ number. sym (none_made (hands number) (made number)))
  dealt [] (y ∷ ys) hands long made = absurd (omega (arith, long))
  dealt (line ∷ lines) [] hands long made = absurd (omega (arith, long))
  dealt (line ∷ lines) (y ∷ ys) hands long made =
      let first =
      first_made (hands line.drive) y (beside line.drive lines ys)
      (made line.drive ∙ its_own line.drive y (beside line.drive lines ys)) in
      let more =
      dealt lines ys (λ number. left_by (line.drive == number) (hands number)) (omega (arith, long))
      (λ number. left_made (line.drive == number) y (beside number lines ys) (hands number) (made number)) in (
        first.0 ∷ more.0,
        λ i. first.3 i ∷ more.1 i,
        λ number. put_back (line.drive == number) first.0 (hands number) (beside number lines more.0) (more.2 number)
            (λ is. (first.1, ap hands (sym (eqb-true line.drive number is)) ∙ first.2)),
      )
