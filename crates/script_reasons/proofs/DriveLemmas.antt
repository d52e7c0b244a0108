-- The drives that are configured, one after another.
use Rattle.std.proofs.Common.{zero, suc, ◌≡◌, ◌+◌, ℕ, Bool, true, false, List, [], ◌∷◌, ◌++◌, sym, ap, ◌∙◌, subst, arith}
use Rattle.std.specs.Prelude.{filter, if◌then◌else◌}
use Rattle.std.specs.List.{range_with_len}
use Rattle.std.proofs.lemmas.List.{append-nil}
use Rattle.std.proofs.lemmas.List.Sums.{fold-append}
use Rattle.std.proofs.lemmas.List.Elements.{filter-append}
use Rattle.script_reasons.specs.Drives.{has}
use Rattle.script_reasons.specs.Texts.{with_number, with_configured, listed}
use Rattle.script_reasons.specs.declared.drives.Drives.{Drives}

-- the first drives that are configured
abbrev pub configured_upto : Drives → ℕ → List ℕ
configured_upto drives count = filter (has drives) (range_with_len 1 count)

range_more : (from count : ℕ) → range_with_len from (suc count) ≡ range_with_len from count ++ (from + count) ∷ []
range_more from zero = ap (λ (n : ℕ). n ∷ []) (omega arith)
range_more from (suc count) =
    ap (λ (rest : List ℕ). from ∷ rest)
    (range_more (from + 1) count ∙ ap (λ (n : ℕ). range_with_len (from + 1) count ++ n ∷ []) (omega arith))

-- one number more of a range
range_next : (count : ℕ) → range_with_len 1 (count + 1) ≡ range_with_len 1 count ++ (count + 1) ∷ []
range_next count =
    let same : suc count ≡ count + 1 = omega arith in
    let number : 1 + count ≡ count + 1 = omega arith in
    subst (λ (n : ℕ). range_with_len 1 n ≡ range_with_len 1 count ++ (count + 1) ∷ []) same
    (range_more 1 count ∙ ap (λ (n : ℕ). range_with_len 1 count ++ n ∷ []) number)

one_more : (drives : Drives) (count : ℕ) → configured_upto drives (count + 1)
    ≡ configured_upto drives count ++ (if has drives (count + 1) then (count + 1) ∷ [] else [])
one_more drives count =
    ap (filter (has drives)) (range_next count)
    ∙ filter-append (has drives) (range_with_len 1 count) ((count + 1) ∷ [])

listed_more : (numbers : List ℕ) (number : ℕ) (b : Bool)
    → listed (numbers ++ (if b then number ∷ [] else []))
    ≡ (if b then with_number (listed numbers) number else listed numbers)
listed_more numbers number true = fold-append with_number [] numbers (number ∷ [])
listed_more numbers number false = ap listed (append-nil numbers)

-- a drive more, which is configured or not
pub drives_more : (drives : Drives) (count : ℕ) (text new : List ℕ) → text ≡ listed (configured_upto drives count)
    → new ≡ with_configured drives text (count + 1) → new ≡ listed (configured_upto drives (count + 1))
drives_more drives count text new so one =
    one ∙ ap (λ (t : List ℕ). with_configured drives t (count + 1)) so
    ∙ sym (listed_more (configured_upto drives count) (count + 1) (has drives (count + 1)))
    ∙ ap listed (sym (one_more drives count))
