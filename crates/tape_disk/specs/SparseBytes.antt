-- Bytes at single places, with zeros between.
use Rattle.std.specs.Prelude.{ℕ, ◌+◌, ◌<◌, ◌≤◌, ◌⊎◌}
use Rattle.std.specs.BTreeMap.{get, BTreeMap}
use Rattle.std.specs.Option.{unwrap_or}
use Rattle.std.specs.Ordering.{nat_cmp}

-- the byte at a place: the one that was written there, else 00h (own)
abbrev pub byte_in : BTreeMap ℕ ℕ → ℕ → ℕ
byte_in written place = unwrap_or (get nat_cmp written place) 0

-- the place is none of the `count` places from `at` on (own)
abbrev pub IsOutside : (at count place : ℕ) → Type 0
IsOutside at count place = (place < at) ⊎ (at + count ≤ place)
