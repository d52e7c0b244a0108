-- The names of a cartridge's two files.
use Rattle.std.specs.Prelude.{ℕ, Bool, List, [], ◌∷◌, ◌++◌, ◌||◌, codes}
use Rattle.std.specs.List.{Contains}
use Rattle.std.specs.Str.{bytes_eq}

-- the name of a cartridge's second file: that of its first, with `.2` added (own)
abbrev pub second_name : List ℕ → List ℕ
second_name file = file ++ codes ".2"

-- the names of both files of a cartridge whose first has this name (own)
abbrev pub both_names : List ℕ → List (List ℕ)
both_names file = file ∷ second_name file ∷ []

-- a name is that of one of the two (own)
abbrev pub is_of_both : List ℕ → List ℕ → Bool
is_of_both file name = bytes_eq name file || bytes_eq name (second_name file)

-- one stands in both lists (own)
abbrev pub Meets : {A : Type 0} → List A → List A → Type 0
Meets {A} xs ys = (x : A) × Contains xs x × Contains ys x
