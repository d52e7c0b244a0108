-- The hosts from number 1 on.
use Rattle.std.proofs.Common.{◌≡◌, ℕ, zero, suc, ◌+◌, List, [], ◌∷◌, ◌++◌, ◌∙◌, ap, arith}
use Rattle.std.specs.List.{range_with_len}

pub one_more : (from count : ℕ)
    → range_with_len from count ++ (from + count) ∷ [] ≡ range_with_len from (suc count)
one_more from zero = ap (λ (n : ℕ). n ∷ []) (omega arith)
one_more from (suc count) =
    ap (λ (rest : List ℕ). from ∷ rest)
    (ap (λ (n : ℕ). range_with_len (from + 1) count ++ n ∷ []) (omega arith) ∙ one_more (from + 1) count)
