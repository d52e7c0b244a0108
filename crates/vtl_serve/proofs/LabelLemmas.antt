-- Labels and inventories.
use Rattle.std.proofs.Common.{zero, suc, ◌≡◌, ◌⊎◌, inl, inr, ◌+◌, ◌<◌, ◌≤◌, ℕ, nat_eq, Bool, List, [], ◌∷◌, ◌++◌, length, get_or, set, map, refl, sym, ap, ◌∙◌, subst, arith, append_assoc}
use Rattle.std.specs.Prelude.{flat_map, if◌then◌else◌}
use Rattle.std.specs.List.{range_with_len}
use Rattle.std.proofs.lemmas.Bool.{cases_eq}
use Rattle.std.proofs.lemmas.List.{append-nil, get_or-set_other, get_or-set_same, get_or_default, map-append}
use Rattle.std.proofs.lemmas.List.Concat.{flat_map-append}
use Rattle.vtl_wire.specs.declared.answers.Entry.{Entry}
use Rattle.vtl_serve.specs.declared.labels.Label.{Label}
use Rattle.vtl_serve.specs.Labels.{carried, carried_one, drive_entry, entry_at}

-- one number more of a range
pub range_more : (from count : ℕ) → range_with_len from (suc count) ≡ range_with_len from count ++ (from + count) ∷ []
range_more from zero = ap (λ (n : ℕ). n ∷ []) (omega arith)
range_more from (suc count) =
    ap (λ (rest : List ℕ). from ∷ rest)
    (range_more (from + 1) count ∙ ap (λ (n : ℕ). range_with_len (from + 1) count ++ n ∷ []) (omega arith))

range_next : (from count : ℕ) → range_with_len from (count + 1) ≡ range_with_len from count ++ (from + count) ∷ []
range_next from count =
    let same : suc count ≡ count + 1 = omega arith in
    subst (λ (n : ℕ). range_with_len from n ≡ range_with_len from count ++ (from + count) ∷ []) same
    (range_more from count)

-- the entry of one drive more
pub drives_more : (drives : List Bool) (labels : List Label) (count : ℕ) (old more new entries : List Entry)
    → entries ≡ old ++ flat_map (drive_entry drives labels) (range_with_len 1 count)
    → more ≡ drive_entry drives labels (1 + count) → new ≡ entries ++ more
    → new ≡ old ++ flat_map (drive_entry drives labels) (range_with_len 1 (count + 1))
drives_more drives labels count old more new entries so one is =
    is ∙ ap (λ (l : List Entry). l ++ more) so
    ∙ append_assoc old (flat_map (drive_entry drives labels) (range_with_len 1 count)) more
    ∙ ap (λ (l : List Entry). old ++ l)
    (ap (λ (l : List Entry). flat_map (drive_entry drives labels) (range_with_len 1 count) ++ l)
    (one ∙ sym (append-nil (drive_entry drives labels (1 + count))))
    ∙ sym (flat_map-append (drive_entry drives labels) (range_with_len 1 count) ((1 + count) ∷ []))
    ∙ ap (flat_map (drive_entry drives labels)) (sym (range_next 1 count)))

-- the entry of one slot more
pub slots_more : (labels : List Label) (from count : ℕ) (old new entries : List Entry)
    → entries ≡ old ++ map (entry_at labels) (range_with_len from count)
    → new ≡ entries ++ entry_at labels (from + count) ∷ []
    → new ≡ old ++ map (entry_at labels) (range_with_len from (count + 1))
slots_more labels from count old new entries so is =
    is ∙ ap (λ (l : List Entry). l ++ entry_at labels (from + count) ∷ []) so
    ∙ append_assoc old (map (entry_at labels) (range_with_len from count)) (entry_at labels (from + count) ∷ [])
    ∙ ap (λ (l : List Entry). old ++ l)
    (sym (map-append (entry_at labels) (range_with_len from count) ((from + count) ∷ []))
    ∙ ap (map (entry_at labels)) (sym (range_next from count)))

-- ---- labels that are carried

-- the labels before a place are carried, and the others as they were
pub record AreCarried (from to : ℕ) (old now : List Label) (at : ℕ) : Type 0 where
  pub done : (k : ℕ) (d : Label) → k < at → get_or now k d ≡ carried_one from to (get_or old k d)
  pub left : (k : ℕ) (d : Label) → at ≤ k → get_or now k d ≡ get_or old k d

pub carried_more : (from to : ℕ) (old now : List Label) (at : ℕ) (item : Label) (address : ℕ)
    → at < length now
    → address ≡ (if nat_eq (get_or now at item).address from then to else (get_or now at item).address)
    → AreCarried from to old now at
    → AreCarried from to old (set now at (record { address = address; barcode = (get_or now at item).barcode }))
    (at + 1)
carried_more from to old now at item address within is so = record {
  done = λ k d less. by k d less (cases_eq k at);
  left = λ k d more.
      get_or-set_other now at k _ d (λ same. absurd (omega (arith, same, more))) ∙ so.left k d (omega (arith, more));
}
  where
    by : (k : ℕ) (d : Label) → k < at + 1 → (k ≡ at) ⊎ (k ≡ at → ⊥)
        → get_or (set now at (record { address = address; barcode = (get_or now at item).barcode })) k d
        ≡ carried_one from to (get_or old k d)
    by k d less (inr other) =
        get_or-set_other now at k _ d other ∙ so.done k d (omega (arith, less, other))
    by k d less (inl same) =
        ap
        (λ (i : ℕ). get_or (set now at (record { address = address; barcode = (get_or now at item).barcode })) i d) same
        ∙ get_or-set_same now at _ d within
        ∙ ap (λ (a : ℕ). record { address = a; barcode = (get_or now at item).barcode }) is
        ∙ ap (carried_one from to) (get_or_default now at item d within ∙ so.left at d (omega arith))
        ∙ ap (λ (i : ℕ). carried_one from to (get_or old i d)) (sym same)

pub carried_all : (from to : ℕ) (old now : List Label) → length now ≡ length old
    → ((k : ℕ) (d : Label) → k < length old → get_or now k d ≡ carried_one from to (get_or old k d))
    → now ≡ carried from to old
carried_all from to [] [] long each = refl
carried_all from to (x ∷ xs) (y ∷ ys) long each =
    ap (λ (l : Label). l ∷ ys) (each zero x (omega arith))
    ∙ ap (λ (l : List Label). carried_one from to x ∷ l)
    (carried_all from to xs ys (omega (arith, long)) (λ k d less. each (suc k) d (omega (arith, less))))
carried_all from to [] (y ∷ ys) long each = absurd (omega (arith, long))
carried_all from to (x ∷ xs) [] long each = absurd (omega (arith, long))
