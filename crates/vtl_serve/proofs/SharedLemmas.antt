-- The hosts of a library, and how it ends.
use Rattle.std.proofs.Common.{zero, suc, ◌≡◌, ◌+◌, ◌<◌, ℕ, nat_eq, Bool, false, List, [], ◌∷◌, Option, Result, Ok, Err, IfOk, refl, sym, ap, subst, arith}
use Rattle.std.proofs.lemmas.Bool.Decides.{nat_tests}
use Rattle.std.specs.List.{AllByRecursion, IsDistinct, range_with_len}
use Rattle.library.specs.Seats.{SeatState}
use Rattle.library.specs.declared.finishing.FinishError.{FinishError}
use Rattle.vtl_serve.specs.Libraries.{hosts_of, seats_of}

-- a number differs from all behind it
behind : (number from count : ℕ) → number < from
    → AllByRecursion (λ (other : ℕ). nat_eq number other ≡ false) (range_with_len from count)
behind number from zero below = tt
behind number from (suc count) below =
    (grind (arith, nat_tests), behind number (from + 1) count (omega (arith, below)))

numbers_differ : (from count : ℕ) → IsDistinct nat_eq (range_with_len from count)
unfolding IsDistinct
numbers_differ from zero = tt
numbers_differ from (suc count) = (behind from (from + 1) count (omega arith), numbers_differ (from + 1) count)

pub hosts_differ : (hosts : List ℕ) (count : ℕ) → hosts ≡ range_with_len 1 count → IsDistinct nat_eq hosts
hosts_differ hosts count are = subst (λ (l : List ℕ). IsDistinct nat_eq l) (sym are) (numbers_differ 1 count)

-- what is returned where a library ends well
pub reported_of : (counts : Result (List (Option ℕ)) FinishError) (all : List (Option ℕ)) (P : List (Option ℕ) → Type 0)
    → IfOk counts (λ counted. (counted ≡ all) × P counted) → IfOk counts (λ counted. counted ≡ all)
reported_of (Ok counted) all P so = so.0
reported_of (Err error) all P so = tt

-- the hosts of some seats have these
pub seats_back : (drives : List Bool) (seats : List SeatState) → seats_of (hosts_of drives seats) ≡ seats
seats_back drives [] = refl
seats_back drives (seat ∷ seats) = ap (λ (l : List SeatState). seat ∷ l) (seats_back drives seats)
