-- A name is a text, filled up with spaces.
use Rattle.std.proofs.Common.{◌≡◌, inl, inr, ℕ, ◌<◌, ◌≤◌, ◌-◌, List, [], ◌∷◌, ◌++◌, length, take, drop, get_or, replicate, refl, sym, ◌∙◌, ap, subst, arith, take-append-drop, length-drop}
use Rattle.std.specs.Prelude.{IsTrue}
use Rattle.std.specs.List.{All}
use Rattle.std.proofs.lemmas.Bool.{cases_order, false≢true}
use Rattle.std.proofs.lemmas.List.{get_or_append_left, get_or-append_right, get_or-replicate, length-take-le, take_at, drop_at}
use Rattle.std.proofs.lemmas.List.Elements.{All-head, All-tail, All-get_or, All-replicate, All-same}
use Rattle.vtl_base.specs.Barcode.{IsBarcode, is_symbol}
use Rattle.gate_journal.specs.Side.{padded}

pub all_spaces : (xs : List ℕ) → All (λ byte. byte ≡ 32) xs → xs ≡ replicate (length xs) 32
all_spaces [] all = refl
all_spaces (x ∷ xs) all = λ i. All-head (λ byte. byte ≡ 32) x xs all i ∷ all_spaces xs
    (All-tail (λ byte. byte ≡ 32) x xs all) i

no_space : (byte : ℕ) → IsTrue (is_symbol byte) → byte ≡ 32 → ⊥
no_space byte symbol e = false≢true (sym (ap is_symbol e) ∙ symbol)

abbrev pub IsText : List ℕ → Type 0
IsText name = (text : List ℕ) × IsBarcode text × (name ≡ padded text)

module _ (name : List ℕ) (sized : length name ≡ 16) (count : ℕ) (bound : count ≤ 16)
    (before : (k : ℕ) → k < count → get_or name k 0 ≡ 32 → ⊥) (space : count < 16 → get_or name count 0 ≡ 32) where
  pub count_is : (t : IsText name) → length t.0 ≡ count
  count_is t = elim (cases_order (length t.0) count) [
    | inl same ↦ same
    | inr (inl less) ↦ absurd (before (length t.0) less (
        ap (λ (l : List ℕ). get_or l (length t.0) 0) t.2
        ∙ get_or-append_right t.0 (replicate (16 - length t.0) 32) (length t.0) (length t.0) 0 refl (omega arith)
        ∙ (let at : length t.0 - length t.0 ≡ 0 = omega arith in
        ap (λ (n : ℕ). get_or (replicate (16 - length t.0) 32) n 0) at)
        ∙ get_or-replicate (16 - length t.0) 0 32 0 (omega (arith, bound, less))))
    | inr (inr more) ↦ absurd (no_space (get_or t.0 count 0)
        (All-get_or (λ byte. IsTrue (is_symbol byte)) t.0 count 0 more t.1.symbols)
        (sym (get_or_append_left t.0 (replicate (16 - length t.0) 32) 0 count more)
        ∙ ap (λ (l : List ℕ). get_or l count 0) (sym t.2)
        ∙ space (omega (arith, more, t.1.short))))
  ]

  pub split_text : IsBarcode (take count name) → All (λ byte. byte ≡ 32) (drop count name) → IsText name
  split_text ok all = (
    take count name,
    ok,
    sym (take-append-drop count name)
        ∙ ap (λ (l : List ℕ). take count name ++ l) (all_spaces (drop count name) all)
        ∙ (let rest : length (drop count name) ≡ 16 - length (take count name) =
        omega (arith, length-drop count name, length-take-le count name (omega (arith, bound, sized)), sized) in
        ap (λ (n : ℕ). take count name ++ replicate n 32) rest),
  )

  pub text_front : (t : IsText name) → IsBarcode (take count name)
  text_front t = subst (λ (l : List ℕ). IsBarcode l)
      (sym (ap (λ (l : List ℕ). take count l) t.2 ∙ take_at t.0 (replicate (16 - length t.0) 32) count (count_is t)))
      t.1

  pub text_spaces : (t : IsText name) → All (λ byte. byte ≡ 32) (drop count name)
  text_spaces t =
      All-same (λ byte. byte ≡ 32) (drop count name) (replicate (16 - length t.0) 32)
      (ap (λ (l : List ℕ). drop count l) t.2 ∙ drop_at t.0 (replicate (16 - length t.0) 32) count (count_is t))
      (All-replicate (λ byte. byte ≡ 32) (16 - length t.0) 32 refl)
