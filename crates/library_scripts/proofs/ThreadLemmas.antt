-- What a function leaves of each value in a list.
use Rattle.std.proofs.Common.{zero, suc, ◌≡◌, ◌<◌, ℕ, List, [], ◌∷◌, ◌++◌, length, get_or, arith}
use Rattle.std.specs.Fork.{ChangesAt}
use denote.Ref.{MutBor}
use denote.Param.Members.{Shared}
use Rattle.library_scripts.specs.Inner.Threads.{ChangesAll}

-- what holds of the values of two lists holds of the two lists appended
joined : {T : Type 0} (R : T → T → Type 0) (xs ys xs' ys' : List T) → length xs' ≡ length xs
    → ((i : ℕ) (d : T) → i < length xs → R (get_or xs i d) (get_or xs' i d))
    → ((i : ℕ) (d : T) → i < length ys → R (get_or ys i d) (get_or ys' i d))
    → (i : ℕ) (d : T) → i < length (xs ++ ys) → R (get_or (xs ++ ys) i d) (get_or (xs' ++ ys') i d)
joined R [] ys [] ys' long one two i d within = two i d within
joined R (x ∷ xs) ys (x' ∷ xs') ys' long one two zero d within = one zero d (omega arith)
joined R (x ∷ xs) ys (x' ∷ xs') ys' long one two (suc i) d within =
    joined R xs ys xs' ys' (omega (arith, long)) (λ j e less. one (suc j) e (omega (arith, less))) two i d
    (omega (arith, within))
joined R [] ys (x' ∷ xs') ys' long one two i d within = absurd (omega (arith, long))
joined R (x ∷ xs) ys [] ys' long one two i d within = absurd (omega (arith, long))

module _ {F T : Type 0} (g : Shared F (ℕ × (MutBor T × Unit {0})) ((Unit {0}) × (MutBor T × Unit {0}))) (f : F) where
  pub changes_join : (xs ys xs' ys' : List T) → length xs' ≡ length xs → ChangesAll g f xs xs'
      → ChangesAll g f ys ys' → ChangesAll g f (xs ++ ys) (xs' ++ ys')
  changes_join xs ys xs' ys' long one two = record {
    each = joined (ChangesAt g f 0) xs ys xs' ys' long one.each two.each;
  }
