-- Text that is written in pieces (own).
use Rattle.std.specs.Prelude.{◌≡◌, ℕ, List, ◌++◌, Option}
use Rattle.std.specs.Io.KnownBytes.{Appends}

-- `more` was put behind the text that was held, whose first bytes may have been written: `left` is held now (own)
pub record Adds (before : Option (List ℕ)) (held more : List ℕ) (now : Option (List ℕ)) (left : List ℕ) : Type 0 where
  pub written : List ℕ
  pub same : written ++ left ≡ held ++ more
  pub appended : Appends before now written
