-- Bytes that are appended one part after another.
use Rattle.std.proofs.Common.{◌≡◌, ℕ, List, ◌∷◌, ◌++◌, ◌∙◌, ap, append_assoc}

-- the parts of a head
module _ (count : ℕ) (name capacities epoch base : List ℕ) (with_name with_capacities with_epoch : List ℕ) where
  pub joined : (all : List ℕ) → with_name ≡ count ∷ name → with_capacities ≡ with_name ++ capacities →
      with_epoch ≡ with_capacities ++ epoch → all ≡ with_epoch ++ base →
      all ≡ ((count ∷ name) ++ capacities) ++ (epoch ++ base)
  joined all first second third last =
      last ∙ ap (λ (l : List ℕ). l ++ base) third ∙ append_assoc with_capacities epoch base
      ∙ (λ i. (second ∙ ap (λ (l : List ℕ). l ++ capacities) first) i ++ (epoch ++ base))
