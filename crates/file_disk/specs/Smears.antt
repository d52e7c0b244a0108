-- What a write may have left that was not made safe, in part or two in a row.
use Rattle.std.proofs.Common.{◌≡◌, ℕ, ◌+◌, ◌-◌, ◌<◌, ◌≤◌, List, [], ◌++◌, length, take, drop, refl, sym, ap, ◌∙◌, subst, inl, inr, arith, append_assoc, take-append-drop}
use Rattle.std.proofs.lemmas.Bool.{cases_lt}
use Rattle.std.proofs.lemmas.List.{append-nil, drop-drop, drop-append-le, drop_all, drop-take, drop_at, take-append-le, take-take, take_all, take_at}
use Rattle.tape_disk.specs.Disk.{IsPrefixOf, Smeared}

module _ (xs ys zs : List ℕ) where
  prefix_both : IsPrefixOf xs ys → IsPrefixOf ys zs → IsPrefixOf xs zs
  prefix_both first second = (
    first.0 ++ second.0,
    second.1 ∙ ap (λ (l : List ℕ). l ++ second.0) first.1 ∙ append_assoc xs first.0 second.0,
  )

prefix_same : (xs : List ℕ) → IsPrefixOf xs xs
prefix_same xs = ([], sym (append-nil xs))

module _ (xs ys : List ℕ) (n : ℕ) where
  prefix_drop : IsPrefixOf xs ys → IsPrefixOf (drop n xs) (drop n ys)
  prefix_drop begins = elim (cases_lt (length xs) n) [ inl past ↦ behind past | inr inside ↦ within inside ]
    where
      within : n ≤ length xs → IsPrefixOf (drop n xs) (drop n ys)
      within inside = (
        begins.0,
        ap (λ (l : List ℕ). drop n l) begins.1 ∙ drop-append-le n xs begins.0 inside,
      )

      behind : length xs < n → IsPrefixOf (drop n xs) (drop n ys)
      behind past = (
        drop n ys,
        ap (λ (l : List ℕ). l ++ drop n ys) (sym (drop_all n xs (omega (arith, past)))),
      )

  prefix_take : IsPrefixOf xs ys → IsPrefixOf (take n xs) (take n ys)
  prefix_take begins = elim (cases_lt (length xs) n) [ inl past ↦ behind past | inr inside ↦ within inside ]
    where
      within : n ≤ length xs → IsPrefixOf (take n xs) (take n ys)
      within inside = (
        [],
        ap (λ (l : List ℕ). take n l) begins.1 ∙ take-append-le n xs begins.0 inside ∙ sym (append-nil (take n xs)),
      )

      behind : length xs < n → IsPrefixOf (take n xs) (take n ys)
      behind past =
          let size : n ≡ length xs + (n - length xs) = omega (arith, past) in
          let rest : drop (length xs) (take n ys) ≡ take (n - length xs) begins.0
          = ap (λ (m : ℕ). drop (length xs) (take m ys)) size
          ∙ drop-take (length xs) (n - length xs) ys
          ∙ ap (λ (l : List ℕ). take (n - length xs) (drop (length xs) l)) begins.1
          ∙ ap (λ (l : List ℕ). take (n - length xs) l) (drop_at xs begins.0 (length xs) refl) in
          let front : take (length xs) (take n ys) ≡ xs
          = take-take (length xs) n ys (omega (arith, past))
          ∙ ap (λ (l : List ℕ). take (length xs) l) begins.1
          ∙ take_at xs begins.0 (length xs) refl in (
            take (n - length xs) begins.0,
            sym (take-append-drop (length xs) (take n ys))
                ∙ ap (λ (l : List ℕ). l ++ drop (length xs) (take n ys)) front
                ∙ ap (λ (l : List ℕ). xs ++ l) rest
                ∙ ap (λ (l : List ℕ). l ++ take (n - length xs) begins.0) (sym (take_all n xs (omega (arith, past)))),
          )

-- nothing was written, and that is no more than a write may have left
pub smeared_same : (at n : ℕ) (xs : List ℕ) → Smeared at n xs xs
smeared_same at n xs = record {
  before = (drop at xs, sym (take-append-drop at xs));
  after = prefix_same (drop (at + n) xs);
  no_shorter = omega arith;
}

module _ (at n at' n' : ℕ) (starts : at ≤ at') (ends : at' + n' ≤ at + n) (old new : List ℕ) where
  -- what a write of a part may have left a write of the whole may have left
  pub smeared_wider : Smeared at' n' old new → Smeared at n old new
  smeared_wider torn = record {
    before = prefix_both (take at old) (take at' old) new
        (subst (λ (l : List ℕ). IsPrefixOf l (take at' old)) (take-take at at' old starts)
        (drop at (take at' old), sym (take-append-drop at (take at' old)))) torn.before;
    after = subst (λ (l : List ℕ). IsPrefixOf l (drop (at + n) new)) (further old)
        (subst (λ (l : List ℕ). IsPrefixOf (drop more (drop (at' + n') old)) l) (further new)
        (prefix_drop (drop (at' + n') old) (drop (at' + n') new) more torn.after));
    no_shorter = torn.no_shorter;
  }
    where
      more : ℕ
      more = at + n - (at' + n')

      further : (xs : List ℕ) → drop more (drop (at' + n') xs) ≡ drop (at + n) xs
      further xs = drop-drop more (at' + n') xs
          ∙ ap (λ (m : ℕ). drop m xs) (let all : at' + n' + more ≡ at + n = omega (arith, ends) in all)

module _ (at n : ℕ) (old mid new : List ℕ) where
  -- two writes in the same range
  pub smeared_twice : Smeared at n old mid → Smeared at n mid new → Smeared at n old new
  smeared_twice first second = record {
    before = prefix_both (take at old) (take at mid) new
        (subst (λ (l : List ℕ). IsPrefixOf l (take at mid)) (take-take at at old (omega arith))
        (prefix_take (take at old) mid at first.before)) second.before;
    after = prefix_both (drop (at + n) old) (drop (at + n) mid) (drop (at + n) new) first.after second.after;
    no_shorter = omega (arith, first.no_shorter, second.no_shorter);
  }
