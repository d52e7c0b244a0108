-- Where words ask for an explanation.
use Rattle.std.proofs.Common.{◌≡◌, ◌<◌, ◌+◌, ℕ, zero, suc, true, false, List, [], ◌∷◌, length, drop, get_or, String, Global, string_bytes, arith, refl, sym, ap, ◌∙◌}
use Rattle.std.specs.Prelude.{codes}
use Rattle.std.specs.Str.{bytes_eq}
use Rattle.vtl_words.specs.Explaining.{has_option}
use Rattle.vtl_words.specs.Orders.{texts_of}

-- the words from a place on: the one there, and those behind
words_from : (words : List (String Global)) (place : ℕ) (d : String Global) → place < length words
    → drop place (texts_of words) ≡ string_bytes (get_or words place d) ∷ drop (suc place) (texts_of words)
words_from [] place d below = absurd (omega (arith, below))
words_from (w ∷ ws) zero d below = refl
words_from (w ∷ ws) (suc place) d below = words_from ws place d (omega (arith, below))

module _ (words : List (String Global)) (place : ℕ) (below : place < length words) (word : String Global)
    (text : List ℕ) (here : word ≡ get_or words place word) (is : text ≡ string_bytes word) where
  from : drop place (texts_of words) ≡ text ∷ drop (suc place) (texts_of words)
  from =
      words_from words place word below
      ∙ ap (λ (t : List ℕ). t ∷ drop (suc place) (texts_of words)) (sym (is ∙ ap string_bytes here))

  -- the option stands there
  pub option_here : bytes_eq text (codes "--explain") ≡ true → has_option (drop place (texts_of words)) ≡ true
  option_here found = rw (from, found) refl

  -- the words end there
  pub end_here : bytes_eq text (codes "--explain") ≡ false → bytes_eq text (codes "--") ≡ true
      → has_option (drop place (texts_of words)) ≡ false
  end_here other end = rw (from, other, end) refl

  -- neither stands there
  pub none_here : bytes_eq text (codes "--explain") ≡ false → bytes_eq text (codes "--") ≡ false
      → has_option (drop place (texts_of words)) ≡ has_option (drop (place + 1) (texts_of words))
  none_here other end =
      let next : suc place ≡ place + 1 = omega arith in
      rw (from, other, end) (ap (λ (n : ℕ). has_option (drop n (texts_of words))) next)
