-- The lines of a phase, host by host.
use Rattle.std.proofs.Common.{zero, suc, ◌≡◌, ◌+◌, ℕ, List, [], ◌∷◌, ◌++◌, sym, ap, ◌∙◌, subst, arith, append_assoc}
use Rattle.std.specs.Prelude.{flat_map}
use Rattle.std.specs.List.{range_with_len}
use Rattle.std.proofs.lemmas.List.{append-nil}
use Rattle.std.proofs.lemmas.List.Concat.{flat_map-append}
use Rattle.answer_notes.specs.declared.queues.Asked.{Asked}
use Rattle.answer_notes.specs.Queues.{lines_of_host}

-- one number more of a range
range_more : (from count : ℕ) → range_with_len from (suc count) ≡ range_with_len from count ++ (from + count) ∷ []
range_more from zero = ap (λ (n : ℕ). n ∷ []) (omega arith)
range_more from (suc count) =
    ap (λ (rest : List ℕ). from ∷ rest)
    (range_more (from + 1) count ∙ ap (λ (n : ℕ). range_with_len (from + 1) count ++ n ∷ []) (omega arith))

range_next : (count : ℕ) → range_with_len 1 (count + 1) ≡ range_with_len 1 count ++ (count + 1) ∷ []
range_next count =
    let same : suc count ≡ count + 1 = omega arith in
    let number : 1 + count ≡ count + 1 = omega arith in
    subst (λ (n : ℕ). range_with_len 1 n ≡ range_with_len 1 count ++ (count + 1) ∷ []) same
    (range_more 1 count ∙ ap (λ (n : ℕ). range_with_len 1 count ++ n ∷ []) number)

-- the lines of the first hosts
abbrev pub of_hosts : List Asked → ℕ → List Asked
of_hosts lines count = flat_map (λ host. lines_of_host host lines) (range_with_len 1 count)

-- the lines of one host more
pub hosts_more : (lines : List Asked) (count : ℕ) (old now new : List Asked) → now ≡ old ++ of_hosts lines count
    → new ≡ now ++ lines_of_host (count + 1) lines → new ≡ old ++ of_hosts lines (count + 1)
hosts_more lines count old now new so is =
    is ∙ ap (λ (l : List Asked). l ++ lines_of_host (count + 1) lines) so
    ∙ append_assoc old (of_hosts lines count) (lines_of_host (count + 1) lines)
    ∙ ap (λ (l : List Asked). old ++ l)
    (ap (λ (l : List Asked). of_hosts lines count ++ l) (sym (append-nil (lines_of_host (count + 1) lines)))
    ∙ sym (flat_map-append (λ host. lines_of_host host lines) (range_with_len 1 count) ((count + 1) ∷ []))
    ∙ ap (flat_map (λ host. lines_of_host host lines)) (sym (range_next count)))
