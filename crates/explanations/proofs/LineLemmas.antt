-- Lines behind lines are lines.
use Rattle.std.proofs.Common.{◌≡◌, ◌≤◌, ◌⊎◌, inl, inr, ℕ, List, [], ◌∷◌, ◌++◌, length, map, take, arith, min, refl, sym, ap, ◌∙◌}
use Rattle.std.specs.Prelude.{Result, Ok, Err, is_ok, if◌then◌else◌}
use Rattle.std.proofs.Math.Nat.{min-le_left, min-le_right, min-eq_left, min-eq_right}
use Rattle.std.proofs.lemmas.Bool.{cases_lt}
use Rattle.std.specs.List.{All}
use Rattle.std.proofs.lemmas.Grind.{flat_map-append}
use Rattle.std.proofs.lemmas.List.{take_all, append-nil, length-map, length-take}
use Rattle.std.proofs.lemmas.List.Elements.{All-nil, All-cons, All-push}
use Rattle.explanations.specs.Lines.{shown, IsPrintable, IsShortLine, joined, AreLines, line_of}

-- a list up to its end or further
pub take_least : {A : Type 0} (xs : List A) (k n : ℕ) → k ≤ n → (k ≡ n) ⊎ (length xs ≤ k) → take k xs ≡ take n xs
take_least xs k n below (inl same) = rw same refl
take_least xs k n below (inr short) = take_all k xs short ∙ sym (take_all n xs (omega (arith, short, below)))

-- and up to the lesser of its length and a number
pub take_lesser : {A : Type 0} (xs : List A) (k n : ℕ) → k ≡ min (length xs) n → take k xs ≡ take n xs
take_lesser xs k n same =
    elim (cases_lt n (length xs)) [
      | inl long ↦ take_least xs k n (omega (arith, same, min-le_right (length xs) n))
          (inl (same ∙ min-eq_right (omega (arith, long))))
      | inr short ↦ take_least xs k n (omega (arith, same, min-le_right (length xs) n))
          (inr (omega (arith, same, min-eq_left short)))
    ]

prints : (b : ℕ) → IsPrintable (shown b)
prints b = grind arith

prints_all : (bytes : List ℕ) → All IsPrintable (map shown bytes)
prints_all [] = All-nil IsPrintable
prints_all (b ∷ bytes) = All-cons IsPrintable (shown b) (map shown bytes) (prints b) (prints_all bytes)

is_line : (text : List ℕ) → IsShortLine (map shown (take 120 text))
is_line text = record {
  fits = omega (arith, length-map (take 120 text) shown, length-take 120 text, min-le_left 120 (length text));
  printable = prints_all (take 120 text);
}

-- one line more
pub one_more : (text line : List ℕ) → AreLines text → AreLines (text ++ line_of line)
one_more text line are = (
  are.0 ++ (map shown (take 120 line)) ∷ [],
  All-push IsShortLine are.0 (map shown (take 120 line)) are.1 (is_line line),
  rw are.2 (sym (flat_map-append (λ (l : List ℕ). l ++ 10 ∷ []) are.0 (map shown (take 120 line) ∷ [])
      ∙ ap (λ (t : List ℕ). joined are.0 ++ t) (append-nil (line_of line)))),
)

-- a line was added, or not
pub line_added : {E : Type 0} (result : Result (Unit {0}) E) (old line new : List ℕ) → AreLines old
    → new ≡ (if is_ok result then old ++ line_of line else old) → AreLines new
line_added (Ok done) old line new are is = rw is (one_more old line are)
line_added (Err why) old line new are is = rw is are
