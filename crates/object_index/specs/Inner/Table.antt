-- What private contracts see of a table.
use Rattle.std.specs.Prelude.{ℕ, List}
use Rattle.object_index.specs.declared.places.Placed.{Placed}

-- the objects of a table, and how many entries can be added without memory (own)
pub record Table : Type 0 where
  pub objects : List Placed
  pub reserved : ℕ
