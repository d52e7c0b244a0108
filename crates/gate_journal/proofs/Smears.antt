-- What a write leaves of bytes that are split at its place.
use Rattle.std.proofs.Common.{◌≡◌, ℕ, ◌+◌, ◌<◌, List, [], ◌∷◌, ◌++◌, length, get_or, take, drop, sym, ◌∙◌, ap, arith, append_assoc, length-append, take-append-drop}
use Rattle.std.proofs.lemmas.List.{take_at, drop_at, drop_more}
use Rattle.tape_disk.specs.Disk.{Smeared, overwritten}

-- the bytes before a place, the byte there, and those after it
pub split_at : (xs : List ℕ) (at : ℕ) → at < length xs → xs ≡ take at xs ++ get_or xs at 0 ∷ drop (at + 1) xs
split_at xs at inside = sym (take-append-drop at xs) ∙ ap (λ (l : List ℕ). take at xs ++ l) (drop_more xs at 0 inside)

module _ (front rest : List ℕ) (at : ℕ) (here : length front ≡ at) where
  -- the bytes before the place stay, however the write ended
  pub keeps_front : (n : ℕ) (new : List ℕ) → Smeared at n (front ++ rest) new → new ≡ front ++ drop at new
  keeps_front n new torn =
      let begins : new ≡ front ++ torn.before.0
      = torn.before.1 ∙ ap (λ (l : List ℕ). l ++ torn.before.0) (take_at front rest at here) in
      let behind : drop at new ≡ torn.before.0
      = ap (λ (l : List ℕ). drop at l) begins ∙ drop_at front torn.before.0 at here in
      begins ∙ ap (λ (l : List ℕ). front ++ l) (sym behind)

  -- what a write with result Ok leaves
  pub written : (bytes new : List ℕ) → new ≡ overwritten at bytes (front ++ rest) →
      new ≡ front ++ bytes ++ drop (at + length bytes) (front ++ rest)
  written bytes new holds = holds
      ∙ ap (λ (l : List ℕ). l ++ bytes ++ drop (at + length bytes) (front ++ rest)) (take_at front rest at here)

module _ (front : List ℕ) (byte : ℕ) (tail : List ℕ) (at : ℕ) (here : length front ≡ at) where
  behind : drop (at + 1) (front ++ byte ∷ tail) ≡ tail
  behind = ap (λ (l : List ℕ). drop (at + 1) l) (sym (append_assoc front (byte ∷ []) tail))
      ∙ drop_at (front ++ byte ∷ []) tail (at + 1) (omega (arith, here, length-append front (byte ∷ [])))

  -- one byte is torn, and all others stay
  pub smeared_byte : (new : List ℕ) → Smeared at 1 (front ++ byte ∷ tail) new
      → (other : ℕ) × (more : List ℕ) × (new ≡ front ++ other ∷ (tail ++ more))
  smeared_byte new torn =
      let long : at < length new = omega (arith, here, length-append front (byte ∷ tail), torn.no_shorter) in
      let other : ℕ = get_or new at 0 in
      let more : List ℕ = torn.after.0 in
      let after : drop (at + 1) new ≡ tail ++ more = torn.after.1 ∙ ap (λ (l : List ℕ). l ++ more) behind in
      let rest : drop at new ≡ other ∷ (tail ++ more)
      = drop_more new at 0 long ∙ ap (λ (l : List ℕ). other ∷ l) after in
      (other, more, keeps_front front (byte ∷ tail) at here 1 new torn ∙ ap (λ (l : List ℕ). front ++ l) rest)

  -- one byte changes, and all others stay
  pub written_byte : (other : ℕ) (new : List ℕ) → new ≡ overwritten at (other ∷ []) (front ++ byte ∷ tail) →
      new ≡ front ++ other ∷ tail
  written_byte other new holds =
      written front (byte ∷ tail) at here (other ∷ []) new holds
      ∙ ap (λ (l : List ℕ). front ++ (other ∷ []) ++ l) behind
      ∙ append_assoc front (other ∷ []) tail
