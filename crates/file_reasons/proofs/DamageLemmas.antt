-- Lines that are added one behind the other.
use Rattle.std.proofs.Common.{◌≡◌, ℕ, List, ◌++◌, Result, OnOk, ap, ◌∙◌, append_assoc}
use Rattle.std.proofs.lemmas.Result.{on_ok_weaker}

-- what three calls added
pub added_thrice : {E : Type 0} (r : Result (Unit {0}) E) (old one two three a b c : List ℕ) → one ≡ old ++ a
    → two ≡ one ++ b → OnOk r (three ≡ two ++ c) → OnOk r (three ≡ old ++ (a ++ (b ++ c)))
added_thrice r old one two three a b c first second = on_ok_weaker r (λ third.
    third ∙ (ap (λ (xs : List ℕ). xs ++ c) (second ∙ ap (λ (xs : List ℕ). xs ++ b) first)
    ∙ (append_assoc (old ++ a) b c ∙ append_assoc old a (b ++ c))))
