-- Facts that a reader of bytes can decide.
use Rattle.std.proofs.Common.{◌≡◌, ◌⊎◌, inl, inr, ⊎_elim, ℕ, ◌<◌, ◌≤◌, List, [], ◌∷◌, arith, refl}
use Rattle.std.proofs.lemmas.Bool.{cases_eq, cases_lt}

abbrev pub Decidable : Type 0 → Type 0
Decidable P = P ⊎ (P → ⊥)

pub both : {P Q : Type 0} → Decidable P → Decidable Q → Decidable (P × Q)
both (inl p) (inl q) = inl (p, q)
both (inr never) q = inr (λ w. never w.0)
both (inl p) (inr never) = inr (λ w. never w.1)

pub both3 : {P Q R : Type 0} → Decidable P → Decidable Q → Decidable R → Decidable (P × Q × R)
both3 (inl p) (inl q) (inl r) = inl (p, q, r)
both3 (inr never) q r = inr (λ w. never w.0)
both3 (inl p) (inr never) r = inr (λ w. never w.1)
both3 (inl p) (inl q) (inr never) = inr (λ w. never w.2)

pub below : (m n : ℕ) → Decidable (m ≤ n)
below m n = ⊎_elim (λ (l : n < m). inr (λ h. omega arith)) inl (cases_lt n m)

pub less : (m n : ℕ) → Decidable (m < n)
less m n = ⊎_elim inl (λ (l : n ≤ m). inr (λ h. omega arith)) (cases_lt m n)

pub same : (xs ys : List ℕ) → Decidable (xs ≡ ys)
same [] [] = inl refl
same [] (y ∷ ys) = inr (λ e. cc)
same (x ∷ xs) [] = inr (λ e. cc)
same (x ∷ xs) (y ∷ ys) = elim (cases_eq x y) [
  | inr never ↦ inr (λ e. never (cc))
  | inl e ↦ elim (same xs ys) [
    | inl f ↦ inl (λ i. e i ∷ f i)
    | inr never ↦ inr (λ g. never (cc))
  ]
]
