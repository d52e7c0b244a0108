-- The hosts from number 1 on.
use Rattle.std.proofs.Common.{◌≡◌, ℕ, zero, suc, ◌+◌, ◌<◌, nat_eq, false, arith}
use Rattle.std.proofs.lemmas.Bool.Decides.{nat_tests}
use Rattle.std.specs.List.{AllByRecursion, IsDistinct, range_with_len}

-- a number differs from all after it
behind : (number from count : ℕ) → number < from
    → AllByRecursion (λ (other : ℕ). nat_eq number other ≡ false) (range_with_len from count)
behind number from zero below = tt
behind number from (suc count) below =
    (grind (arith, nat_tests), behind number (from + 1) count (omega (arith, below)))

pub numbers_differ : (from count : ℕ) → IsDistinct nat_eq (range_with_len from count)
unfolding IsDistinct
numbers_differ from zero = tt
numbers_differ from (suc count) = (behind from (from + 1) count (omega arith), numbers_differ (from + 1) count)
