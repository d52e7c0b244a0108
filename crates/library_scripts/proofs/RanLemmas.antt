-- What a run says of a library's end.
use Rattle.std.proofs.Common.{◌≡◌, ℕ, List, Option, Result, Ok, Err}
use Rattle.std.specs.Prelude.{IfOk}
use Rattle.library.specs.Ends.{sum_of_counts}
use Rattle.library.specs.declared.finishing.FinishError.{FinishError}

-- a good end reports the counts alone
pub reported_of : (result : Result (List (Option ℕ)) FinishError) (counts : List (Option ℕ)) (sum : ℕ)
    → IfOk result (λ c. (c ≡ counts) × (sum_of_counts c ≡ sum)) → IfOk result (λ c. c ≡ counts)
reported_of (Ok found) counts sum both = both.0
reported_of (Err error) counts sum both = tt
