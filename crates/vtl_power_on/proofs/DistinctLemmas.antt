-- What stands in a row, and whether it stands there once.
use Rattle.std.proofs.Common.{◌≡◌, ◌≢◌, ◌⊎◌, inl, inr, ℕ, ◌==◌, Bool, true, List, [], ◌∷◌, ◌++◌, map, refl, arith, subst, false}
use Rattle.std.proofs.lemmas.Bool.Decides.{nat_tests}
use Rattle.std.proofs.lemmas.List.Elements.{Contains-append_left, Contains-append_right, Contains-append_cases, Contains-push, Contains-push_cases}
use Rattle.std.specs.List.{Contains}
use Rattle.vtl_config.specs.Entries.{AreDistinct}

-- two numbers are the same or not
pub same_or_not : (a b : ℕ) → (a ≡ b) ⊎ (a ≢ b)
same_or_not a b = by (a == b) refl
  where
    by : (test : Bool) → (a == b) ≡ test → (a ≡ b) ⊎ (a ≢ b)
    by true is = inl (grind (arith, nat_tests))
    by false is = inr (λ same. let no : (a == b) ≡ true = grind (arith, nat_tests) in absurd (cc))

the_only : {A : Type 0} (y x : A) → Contains (y ∷ []) x → y ≡ x
the_only y x first = by (Contains-push_cases [] y x first)
  where
    by : Contains [] x ⊎ (y ≡ x) → y ≡ x
    by (inl (k, below, at)) = absurd (omega (arith, below))
    by (inr same) = same

-- what a function makes of an element is among what it makes of all
pub contains_map : {A : Type 0} (f : A → ℕ) (xs : List A) (x : A) → Contains xs x → Contains (map f xs) (f x)
contains_map f [] x (k, below, at) = absurd (omega (arith, below))
contains_map f (y ∷ ys) x there = by (contains_map f ys x) (Contains-append_cases (y ∷ []) ys x there)
  where
    by : (Contains ys x → Contains (map f ys) (f x)) → Contains (y ∷ []) x ⊎ Contains ys x
        → Contains (map f (y ∷ ys)) (f x)
    by behind (inr later) = Contains-append_right (f y ∷ []) (map f ys) (f x) (behind later)
    by behind (inl first) =
        subst (λ z. Contains (map f (y ∷ ys)) (f z)) (the_only y x first)
        (Contains-append_left (f y ∷ []) (map f ys) (f y) (Contains-push [] (f y)))

-- where a value stands twice, not all are distinct
pub twice : (xs ys : List ℕ) (x : ℕ) → Contains xs x → ¬ AreDistinct (xs ++ x ∷ ys)
twice [] ys x (k, below, at) distinct = absurd (omega (arith, below))
twice (y ∷ xs) ys x there distinct =
    by (λ later. twice xs ys x later distinct.1) (Contains-append_cases (y ∷ []) xs x there)
  where
    by : (Contains xs x → ⊥) → Contains (y ∷ []) x ⊎ Contains xs x → ⊥
    by behind (inr later) = behind later
    by behind (inl first) =
        distinct.0 (Contains-append_right xs (x ∷ ys) y
        (Contains-append_left (x ∷ []) ys y (subst (λ (z : ℕ). Contains (z ∷ []) y) (the_only y x first)
        (Contains-push [] y))))
