-- The count of the changes that were accepted since a drive was switched on.
use Rattle.std.specs.Prelude.{◌≡◌, ◌≤◌, ◌+◌, ◌-◌, ◌^◌, min, ℕ, List, [], ◌∷◌, length}
use Rattle.volume_core.specs.declared.changes.Change.{Change}

-- a count, once these changes are accepted: each raises it by one, and at 18,446,744,073,709,551,615 it stays (own)
abbrev pub counted_up : ℕ → List Change → ℕ
counted_up count [] = count
counted_up count (change ∷ changes) = counted_up (min (count + 1) (2 ^ 64 - 1)) changes

-- so it rises by the number of the changes, up to that limit (own)
abbrev pub CountsAreHeld : Type 0
CountsAreHeld =
    (count : ℕ) (changes : List Change) → count ≤ 2 ^ 64 - 1
    → counted_up count changes ≡ min (count + length changes) (2 ^ 64 - 1)
