-- Lists: what an entry shares with those before it, and one more at the end.
use Rattle.std.proofs.Common.{◌≡◌, ℕ, zero, suc, ◌+◌, ◌<◌, ◌≤◌, Bool, true, List, [], ◌∷◌, ◌++◌, length, take, get_or, map, inl, inr, arith, refl, sym, ap, ◌∙◌}
use Rattle.std.proofs.lemmas.Bool.{cases_Bool, or_left, or_right}
use Rattle.std.proofs.lemmas.List.{take_more, map-append}
use Rattle.std.proofs.lemmas.List.Elements.{Contains-push_cases}
use Rattle.std.specs.List.{Contains, list_any}
use Rattle.vtl_config.specs.Entries.{Paired, AreDistinct}

pub contains_first : {A : Type 0} (y : A) (ys : List A) (x : A) → y ≡ x → Contains (y ∷ ys) x
contains_first y ys x e = (0, omega arith, e)

pub contains_later : {A : Type 0} (y : A) (ys : List A) (x : A) → Contains ys x → Contains (y ∷ ys) x
contains_later y ys x has = (suc has.0, omega (arith, has.1), has.2)

-- a test of each entry that is true only where it has x finds x
pub any_contains :
    {D A : Type 0} (f : D → A) (same : A → Bool) (x : A) → ((a : A) → same a ≡ true → a ≡ x) → (ds : List D)
    → list_any (λ d. same (f d)) ds ≡ true → Contains (map f ds) x
any_contains f same x sound [] found = cc
any_contains f same x sound (d ∷ ds) found =
    elim (cases_Bool (same (f d))) [
      | inl same_here ↦ contains_first (f d) (map f ds) x (sound (f d) same_here)
      | inr other ↦ contains_later (f d) (map f ds) x (any_contains f same x sound ds (rw other at found))
    ]

-- and where x is there, the test is true
pub contains_any :
    {D A : Type 0} (f : D → A) (same : A → Bool) (x : A) → ((a : A) → a ≡ x → same a ≡ true) → (ds : List D)
    → (k : ℕ) → k < length (map f ds) → get_or (map f ds) k x ≡ x → list_any (λ d. same (f d)) ds ≡ true
contains_any f same x complete [] k below here = absurd (omega arith)
contains_any f same x complete (d ∷ ds) zero below here = or_left _ _ (complete (f d) here)
contains_any f same x complete (d ∷ ds) (suc k) below here =
    or_right _ _ (contains_any f same x complete ds k (omega arith) here)

-- one more at the end of both
pub each_push :
    {A B : Type 0} (R : A → B → Type 0) (values : List A) (entries : List B) (value : A) (entry : B)
    → Paired R values entries → R value entry → Paired R (values ++ value ∷ []) (entries ++ entry ∷ [])
each_push R [] [] value entry each here = (here, tt)
each_push R [] (b ∷ bs) value entry each here = absurd each
each_push R (a ∷ more) [] value entry each here = absurd each
each_push R (a ∷ more) (b ∷ bs) value entry each here = (each.0, each_push R more bs value entry each.1 here)

-- one more that is not there yet
pub distinct_push :
    {A : Type 0} (xs : List A) (x : A) → AreDistinct xs → ¬ Contains xs x → AreDistinct (xs ++ x ∷ [])
distinct_push [] x distinct new = ((λ has. absurd (omega (arith, has.1))), tt)
distinct_push (y ∷ ys) x distinct new = (
  (λ has. elim (Contains-push_cases ys x y has) [
    | inl before ↦ distinct.0 before
    | inr same ↦ new (contains_first y ys x (sym same))
  ]),
  distinct_push ys x distinct.1 (λ has. new (contains_later y ys x has)),
)

-- a list up to a place, seen through f, and what stands there
pub taken_more :
    {A B : Type 0} (f : A → B) (xs : List A) (i : ℕ) (d : A) → i < length xs
    → map f (take (i + 1) xs) ≡ map f (take i xs) ++ f (get_or xs i d) ∷ []
taken_more f xs i d below = ap (map f) (take_more xs i d below) ∙ map-append f (take i xs) (get_or xs i d ∷ [])

pub split_here :
    {A B : Type 0} (f : A → B) (xs : List A) (i : ℕ) (d : A) → i < length xs
    → (rest : List B) × (map f xs ≡ map f (take i xs) ++ f (get_or xs i d) ∷ rest)
split_here f [] i d below = absurd (omega arith)
split_here f (x ∷ xs) zero d below = (map f xs, refl)
split_here {A} {B} f (x ∷ xs) (suc i) d below =
    let more = split_here f xs i d (omega arith) in
    (more.0, ap (λ (t : List B). f x ∷ t) more.1)

pub length_taken :
    {A B : Type 0} (f : A → B) (xs : List A) (i : ℕ) → i ≤ length xs → length (map f (take i xs)) ≡ i
length_taken f xs zero below = refl
length_taken f [] (suc i) below = absurd (omega arith)
length_taken f (x ∷ xs) (suc i) below = ap suc (length_taken f xs i (omega arith))
