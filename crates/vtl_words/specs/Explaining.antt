-- Which command words ask for an explanation, and why they are refused.
use Rattle.std.specs.Prelude.{◌||◌, ◌&&◌, ℕ, Bool, false, not, List, [], ◌∷◌, codes, drop}
use Rattle.std.specs.Str.{bytes_eq}

-- one of the words is `--explain`, and none before it is `--` (own)
abbrev pub has_option : List (List ℕ) → Bool
has_option [] = false
has_option (word ∷ words) =
    bytes_eq word (codes "--explain") || (not (bytes_eq word (codes "--")) && has_option words)

-- the words behind the program's name ask for an explanation (own)
abbrev pub asks_to_explain : List (List ℕ) → Bool
asks_to_explain words = has_option (drop 1 words)
