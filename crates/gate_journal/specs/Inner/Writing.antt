-- What a crash may leave while a frame is written, in bytes.
use Rattle.std.specs.Prelude.{◌≡◌, ◌⊎◌, ◌+◌, ℕ, List, [], ◌∷◌, ◌++◌, length}
use Rattle.std.specs.Int.{to_be_bytes, w32}
use Rattle.tape_disk.specs.Disk.{Cut, DiskState, Smeared, overwritten}
use Rattle.gate_journal.specs.Side.{CLOSED, OPEN}

-- one of these images, and any bytes in a range of it (own)
abbrev pub Touched : ℕ → ℕ → (List ℕ → Type 0) → List ℕ → Type 0
Touched at n images image = (before : List ℕ) × images before × Smeared at n before image

-- one of these images, and any bytes past its first `len` (own)
abbrev pub CutFrom : ℕ → (List ℕ → Type 0) → List ℕ → Type 0
CutFrom len images image = (before : List ℕ) × images before × Cut len before image

-- the front, the gate, and then any bytes (own)
abbrev pub Behind : List ℕ → ℕ → List ℕ → Type 0
Behind front gate image = (rest : List ℕ) × (image ≡ front ++ gate ∷ rest)

-- the front, some gate, these bytes, and then any bytes (own)
abbrev pub Gated : List ℕ → List ℕ → List ℕ → Type 0
Gated front bytes image = (gate : ℕ) × (rest : List ℕ) × (image ≡ front ++ gate ∷ bytes ++ rest)

-- any bytes after the old gate, or these bytes after some gate (own)
abbrev pub BehindOrGated : List ℕ → ℕ → List ℕ → List ℕ → Type 0
BehindOrGated front gate bytes image = Behind front gate image ⊎ Gated front bytes image

-- the front, an open gate, and then these bytes (own)
abbrev pub opened : List ℕ → List ℕ → List ℕ
opened front bytes = front ++ OPEN ∷ bytes

-- what is written after the gate: a length, a body, and the next gate, closed (own)
abbrev pub tail_of : List ℕ → List ℕ
tail_of body = to_be_bytes w32 (length body) ++ body ++ CLOSED ∷ []

-- Of these bytes, which begin at place `from` of the disk, the first ones were written, and over an honest disk reads
-- return them; the others are gathered, and begin at place `at` (own).
pub record Gathers (from at : ℕ) (bytes gathered : List ℕ) (old new : DiskState) : Type 0 where
  pub written : List ℕ
  pub all : bytes ≡ written ++ gathered
  pub at_is : at ≡ from + length written
  pub seen : old.honest → new.seen ≡ overwritten from written old.seen
