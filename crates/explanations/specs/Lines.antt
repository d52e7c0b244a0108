-- The lines of an explanation.
use Rattle.std.specs.Prelude.{◌≡◌, ◌≤◌, ◌||◌, ℕ, List, [], ◌∷◌, ◌++◌, length, map, take, nat_lt, if◌then◌else◌}
use Rattle.std.specs.List.{All, flat_map}

-- a byte as a line shows it: one that is no printable ASCII character is a question mark (own)
abbrev pub shown : ℕ → ℕ
shown byte = if nat_lt byte 32 || nat_lt 126 byte then 63 else byte

-- a printable ASCII character (own)
abbrev pub IsPrintable : ℕ → Type 0
IsPrintable byte = (32 ≤ byte) × (byte ≤ 126)

-- a line, without its line feed: at most 120 columns (own)
pub record IsShortLine (line : List ℕ) : Type 0 where
  pub fits : length line ≤ 120
  pub printable : All IsPrintable line

-- lines, each with its line feed (own)
abbrev pub joined : List (List ℕ) → List ℕ
joined lines = flat_map (λ line. line ++ 10 ∷ []) lines

-- a text is such lines (own)
abbrev pub AreLines : List ℕ → Type 0
AreLines text = (lines : List (List ℕ)) × All IsShortLine lines × (text ≡ joined lines)

-- a text as a line has it: its first 120 bytes as they are shown, and a line feed (own)
abbrev pub line_of : List ℕ → List ℕ
line_of text = map shown (take 120 text) ++ 10 ∷ []
