-- Sets of nexuses, and maps from them.
use Rattle.std.specs.Prelude.{◌≡◌, ◌≤◌, ◌==◌, ◌&&◌, not, ℕ, Bool, false, List, ◌∷◌, Option, None, Some, length, slice_index_or}
use Rattle.std.specs.List.{list_any, range_with_len}
use Rattle.vtl_base.specs.declared.limits.TheConstants.{NEXUSES}

-- a nexus is a number from 1 to 64 (own)
abbrev pub IsNexus : ℕ → Type 0
IsNexus nexus = (1 ≤ nexus) × (nexus ≤ NEXUSES)

-- all nexuses, by rising number (own)
abbrev pub nexuses : List ℕ
nexuses = range_with_len 1 NEXUSES

-- a set of nexuses: whether each is in it (own)
abbrev pub Nexuses : Type 0
Nexuses = ℕ → Bool

-- the empty set (own)
abbrev pub nobody : Nexuses
nobody nexus = false

-- a set without one nexus (own)
abbrev pub but : Nexuses → ℕ → Nexuses
but set nexus other = set other && not (other == nexus)

-- a set without the nexuses of another (own)
abbrev pub minus : Nexuses → Nexuses → Nexuses
minus set taken nexus = set nexus && not (taken nexus)

-- a set has a member (own)
unfoldable pub is_some_in : Nexuses → Bool
is_some_in set = list_any set nexuses

-- a nexus is named, and is in a set (own)
abbrev pub is_named_in : Option ℕ → Nexuses → Bool
is_named_in None set = false
is_named_in (Some nexus) set = set nexus

-- the entry of a nexus in a row with one entry for each, from nexus 1 on; for a number that is no nexus, `nothing`
-- (own)
abbrev pub row_at : {A : Type 0} → A → List A → ℕ → A
row_at nothing row nexus = slice_index_or (nothing ∷ row) nexus nothing

-- a row has one entry for each nexus, and these are the entries of a map (own)
pub record Shows {A : Type 0} (nothing : A) (row : List A) (entries : ℕ → A) : Type 0 where
  pub all : length row ≡ NEXUSES
  pub each : (nexus : ℕ) → IsNexus nexus → row_at nothing row nexus ≡ entries nexus

-- the calls of a function return the entries of a map (own)
abbrev pub GivesEntries : {A : Type 0} → (ℕ → A → Type 0) → (ℕ → A) → Type 0
GivesEntries {A} answers entries =
    (nexus : ℕ) (answer : A) → IsNexus nexus → answers nexus answer → answer ≡ entries nexus
