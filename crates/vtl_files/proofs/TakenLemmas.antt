-- The entries of a configuration, taken one by one.
use Rattle.std.proofs.Common.{◌≡◌, ◌∙◌, List, [], ◌∷◌, ◌++◌, length, refl, sym, arith, append_assoc, append-nil}

-- one is taken: those before it, it and those behind it are all
pub parted : {A I : Type 0} (items : I → List A) (all taken : List A) (entry : A) (at next : I)
    → taken ++ items at ≡ all → items at ≡ entry ∷ items next → all ≡ taken ++ entry ∷ items next
parted items all taken entry at next all_are steps = sym all_are ∙ (rw steps refl)

-- and then it is among those that were taken
pub one_more : {A I : Type 0} (items : I → List A) (all taken : List A) (entry : A) (at next : I)
    → taken ++ items at ≡ all → items at ≡ entry ∷ items next → (taken ++ entry ∷ []) ++ items next ≡ all
one_more items all taken entry at next all_are steps =
    append_assoc taken (entry ∷ []) (items next) ∙ sym (parted items all taken entry at next all_are steps)

pub nothing_left : {A : Type 0} (rest : List A) → length rest ≡ 0 → rest ≡ []
nothing_left [] none = refl
nothing_left (entry ∷ rest) none = absurd (omega arith)

-- none is left: all were taken
pub all_taken : {A : Type 0} (rest all taken : List A) → taken ++ rest ≡ all → length rest ≡ 0 → taken ≡ all
all_taken rest all taken all_are none = sym (append-nil taken) ∙ (rw (← nothing_left rest none) all_are)
