-- Lists by their places.
use Rattle.std.proofs.Common.{◌≡◌, ℕ, zero, suc, ◌<◌, ◌≤◌, ◌-◌, List, [], ◌∷◌, ◌++◌, length, take, drop, replicate, refl, ◌∙◌, ap, arith, Some}
use Rattle.std.specs.Prelude.{slice_get, slice_set}

pub slice_get_left : {A : Type 0} (xs ys : List A) (k : ℕ) → k < length xs → slice_get (xs ++ ys) k ≡ slice_get xs k
slice_get_left [] ys k within = absurd (omega (arith, within))
slice_get_left (x ∷ xs) ys zero within = refl
slice_get_left (x ∷ xs) ys (suc k) within = slice_get_left xs ys k (omega (arith, within))

pub slice_get_right : {A : Type 0} (xs ys : List A) (k : ℕ) → length xs ≤ k
    → slice_get (xs ++ ys) k ≡ slice_get ys (k - length xs)
slice_get_right [] ys k past = (let same : k ≡ k - 0 = omega arith in ap (slice_get ys) same)
slice_get_right (x ∷ xs) ys zero past = absurd (omega (arith, past))
slice_get_right (x ∷ xs) ys (suc k) past =
    slice_get_right xs ys k (omega (arith, past))
    ∙ (let same : k - length xs ≡ suc k - suc (length xs) = omega arith in ap (slice_get ys) same)

pub slice_get_taken : {A : Type 0} (n : ℕ) (xs : List A) (k : ℕ) (x : A) → slice_get (take n xs) k ≡ Some x
    → (k < n) × (slice_get xs k ≡ Some x)
slice_get_taken zero xs k x is = absurd (cc)
slice_get_taken (suc n) [] k x is = absurd (cc)
slice_get_taken (suc n) (y ∷ xs) zero x is = (omega arith, is)
slice_get_taken (suc n) (y ∷ xs) (suc k) x is =
    let rest = slice_get_taken n xs k x is in (omega (arith, rest.0), rest.1)

pub slice_get_row : {A : Type 0} (n k : ℕ) (x : A) → k < n → slice_get (replicate n x) k ≡ Some x
slice_get_row zero k x within = absurd (omega (arith, within))
slice_get_row (suc n) zero x within = refl
slice_get_row (suc n) (suc k) x within = slice_get_row n k x (omega (arith, within))

-- one more element of a list
pub take_next : {A : Type 0} (xs : List A) (k : ℕ) (x : A) → slice_get xs k ≡ Some x
    → take (suc k) xs ≡ take k xs ++ x ∷ []
take_next [] k x is = absurd (cc)
take_next (y ∷ xs) zero x is = (let same : y ≡ x = cc in λ i. same i ∷ [])
take_next (y ∷ xs) (suc k) x is = ap (λ l. y ∷ l) (take_next xs k x is)

-- the element at a place parts a list
pub split_at : {A : Type 0} (xs : List A) (k : ℕ) (x : A) → slice_get xs k ≡ Some x
    → xs ≡ take k xs ++ x ∷ drop (suc k) xs
split_at [] k x is = absurd (cc)
split_at (y ∷ xs) zero x is = (let same : y ≡ x = cc in λ i. same i ∷ xs)
split_at (y ∷ xs) (suc k) x is = ap (λ l. y ∷ l) (split_at xs k x is)

-- there is an element at each place within a list
pub at_within : {A : Type 0} (xs : List A) (k : ℕ) → k < length xs → (x : A) × (slice_get xs k ≡ Some x)
at_within [] k within = absurd (omega (arith, within))
at_within (x ∷ xs) zero within = (x, refl)
at_within (x ∷ xs) (suc k) within = at_within xs k (omega (arith, within))

-- a first part of two lists, where the first is long enough
pub take_past : {A : Type 0} (xs ys : List A) (n : ℕ) → length xs ≤ n → take n (xs ++ ys)
    ≡ xs ++ take (n - length xs) ys
take_past [] ys n past = (let same : n ≡ n - 0 = omega arith in ap (λ m. take m ys) same)
take_past (x ∷ xs) ys zero past = absurd (omega (arith, past))
take_past (x ∷ xs) ys (suc n) past =
    ap (λ l. x ∷ l) (take_past xs ys n (omega (arith, past))
    ∙ (let same : n - length xs ≡ suc n - suc (length xs) = omega arith in ap (λ m. xs ++ take m ys) same))

-- an element that is written at a place is there
pub slice_get_set : {A : Type 0} (xs : List A) (k : ℕ) (x : A) → k < length xs → slice_get (slice_set xs k x) k ≡ Some x
slice_get_set [] k x within = absurd (omega (arith, within))
slice_get_set (y ∷ xs) zero x within = refl
slice_get_set (y ∷ xs) (suc k) x within = slice_get_set xs k x (omega (arith, within))

-- writing the element that is there changes nothing
pub set_here : {A : Type 0} (xs : List A) (k : ℕ) (x : A) → slice_get xs k ≡ Some x → slice_set xs k x ≡ xs
set_here [] k x is = absurd (cc)
set_here (y ∷ xs) zero x is = (let same : x ≡ y = cc in λ i. same i ∷ xs)
set_here (y ∷ xs) (suc k) x is = ap (λ l. y ∷ l) (set_here xs k x is)

-- an element at a place is there among more of the first as well
pub slice_get_in_take : {A : Type 0} (n : ℕ) (xs : List A) (k : ℕ) → k < n → slice_get (take n xs) k ≡ slice_get xs k
slice_get_in_take zero xs k within = absurd (omega (arith, within))
slice_get_in_take (suc n) [] k within = refl
slice_get_in_take (suc n) (x ∷ xs) zero within = refl
slice_get_in_take (suc n) (x ∷ xs) (suc k) within = slice_get_in_take n xs k (omega (arith, within))
