-- Numbers of a list that are added up modulo 2^64, from the last one down.
use Rattle.std.proofs.Common.{◌≡◌, ◌+◌, ◌%◌, ◌^◌, ◌<◌, ℕ, List, [], ◌∷◌, ◌++◌, length, sum_by, refl, ap, arith}
use Rattle.std.proofs.lemmas.List.Sums.{sum_by-append, sum_by-cons}

-- one more number is added, and what is left has that much less
pub added_on : (sum one before left whole : ℕ) → before ≡ left + one → (sum + before) % 2 ^ 64 ≡ whole
    → ((sum + one) % 2 ^ 64 + left) % 2 ^ 64 ≡ whole
added_on sum one before left whole parts so = omega (arith, parts, so)

-- nothing is left
pub added_all : (sum left whole : ℕ) → sum < 2 ^ 64 → left ≡ 0 → (sum + left) % 2 ^ 64 ≡ whole → sum ≡ whole
added_all sum left whole below none so = omega (arith, below, none, so)

module _ {X : Type 0} (f : X → ℕ) where
  -- the sum without the last
  pub sum_less : (all items : List X) (x : X) (one : ℕ) → all ≡ items ++ x ∷ [] → one ≡ f x
      → sum_by f all ≡ sum_by f items + one
  sum_less all items x one is same =
      let last : sum_by f (x ∷ []) ≡ f x + 0 = sum_by-cons f x [] in
      omega (arith, ap (sum_by f) is, sum_by-append f items (x ∷ []), last, same)

  -- the sum of no numbers
  pub sum_none : (xs : List X) → length xs ≡ 0 → sum_by f xs ≡ 0
  sum_none [] none = refl
  sum_none (x ∷ xs) none = absurd (omega (arith, none))
