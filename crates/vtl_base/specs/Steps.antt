-- Steps of a search.
use Rattle.std.specs.Prelude.{◌≤◌, ◌+◌, ◌-◌, ◌*◌, ◌^◌, ℕ, min}

-- one more step; the number stops at 2^64 - 1 (own)
abbrev pub ticked : ℕ → ℕ
ticked steps = min (steps + 1) (2 ^ 64 - 1)

-- At most as many steps were added as the number has binary digits, and none for 0: two to the power of them is at most
-- twice the number plus 1 (own).
pub record AddsDigits (old new number : ℕ) : Type 0 where
  pub grows : old ≤ new
  pub digits : 2 ^ (new - old) ≤ 2 * number + 1
