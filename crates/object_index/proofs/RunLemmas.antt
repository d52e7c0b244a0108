-- Runs of filemarks: how many filemarks come before a place, and which run has the one of a number.
use Rattle.std.proofs.Common.{◌≡◌, inl, inr, ℕ, zero, suc, ◌<◌, ◌≤◌, ◌+◌, ◌-◌, min, List, length, take, sym, ◌∙◌, ap, subst, arith, Some}
use Rattle.std.specs.Prelude.{slice_get, Option, None}
use Rattle.std.proofs.Math.Nat.{eq-or-lt_of_le}
use Rattle.std.proofs.lemmas.Bool.{cases_lt}
use Rattle.std.proofs.lemmas.Option.{slice_get_within}
use Rattle.object_index.specs.declared.places.Placed.{Placed}
use Rattle.object_index.specs.declared.runs.MarkRun.{MarkRun}
use Rattle.object_index.specs.declared.halving.Key.TheVariants.{First, Before}
use Rattle.object_index.specs.MarkRuns.{AddsDigitsOfRuns, AreRunsOf, HasMarkAt, IsRunUpto, placed_marks}
use Rattle.object_index.specs.Inner.RunSearch.{IsLastBelow, IsNotBelow}
use Rattle.object_index.proofs.PlacedMarks.{all_counted, mark_within, marks_all, none_counted, same_run}
use Rattle.object_index.proofs.Rows.{at_within}
use Rattle.object_index.proofs.StepLemmas.{at_most_24}

module _ (objects : List Placed) (runs : List MarkRun) (are : AreRunsOf objects runs) where
  -- the run of that number begins at that object or later
  begins_later : (k : ℕ) (run : MarkRun) → slice_get runs k ≡ Some run → k ≤ run.first
  begins_later zero run is = omega arith
  begins_later (suc k) run is =
      let here = at_within runs k (omega (arith, slice_get_within runs (suc k) run is)) in
      omega (
        arith,
        begins_later k here.0 here.1,
        are.apart k (suc k) here.0 run (omega arith) here.1 is,
      )

  -- so there are no more runs than objects
  pub no_more_runs : length runs ≤ length objects
  no_more_runs = elim (cases_lt (length objects) (length runs)) [
    | inr few ↦ few
    | inl more ↦
        let last = at_within runs (length objects) more in
        let run = are.each (length objects) last.0 last.1 in
        let mark = run.marks last.0.first (omega arith) (omega (arith, run.some)) in
        absurd (omega (
          arith,
          begins_later (length objects) last.0 last.1,
          mark_within objects last.0.first mark,
        ))
  ]

  -- the filemarks before a place: the run of that number begins before it, and no later run does
  module _ (k : ℕ) (run : MarkRun) (is : slice_get runs k ≡ Some run) (n : ℕ) (begun : run.first ≤ n)
      (rest : (m : ℕ) (other : MarkRun) → k < m → slice_get runs m ≡ Some other → n ≤ other.first) where
    none_behind : (at : ℕ) → run.first + run.count ≤ at → at < n → HasMarkAt objects at → ⊥
    none_behind at low high mark =
        let found = are.all at mark in
        elim (cases_lt k found.0) [
          | inl later ↦ omega (arith, rest found.0 found.1 later found.2, found.3, high)
          | inr upto ↦ elim (eq-or-lt_of_le upto) [
            | inl same ↦
                let one = same_run run found.1 (sym is ∙ ap (slice_get runs) (sym same) ∙ found.2) in
                omega (arith, ap (λ (r : MarkRun). r.first + r.count) one, found.4, low)
            | inr earlier ↦ omega (arith, are.apart found.0 k found.1 run earlier found.2 is, found.4, low)
          ]
        ]

    pub counted : placed_marks (take n objects) ≡ run.before + min run.count (n - run.first)
    counted =
        let one = are.each k run is in
        elim (cases_lt (run.first + run.count) n) [
          | inr within ↦
              let far : run.first + (n - run.first) ≡ n = omega (arith, begun) in
              let all = all_counted objects run.first (n - run.first)
              (λ at low high. one.marks at low (omega (arith, high, within, begun))) in
              omega (arith, ap (λ (m : ℕ). placed_marks (take m objects)) far, all, one.before, within, begun)
          | inl past ↦
              let all = all_counted objects run.first run.count one.marks in
              let far : run.first + run.count + (n - (run.first + run.count)) ≡ n = omega (arith, past) in
              let none = none_counted objects (run.first + run.count) (n - (run.first + run.count))
              (λ at low high. none_behind at low (omega (arith, high, far))) in
              omega (arith, ap (λ (m : ℕ). placed_marks (take m objects)) far, all, none, one.before, past)
        ]

  -- where no run begins before a place, no filemark does
  pub none_before : (n : ℕ) → ((m : ℕ) (other : MarkRun) → slice_get runs m ≡ Some other → n ≤ other.first)
      → placed_marks (take n objects) ≡ 0
  none_before n rest =
      let far : 0 + n ≡ n = omega arith in
      let none = none_counted objects 0 n
      (λ at low high mark.
      let found = are.all at mark in omega (arith, rest found.0 found.1 found.2, found.3, high, far)) in
      omega (arith, ap (λ (m : ℕ). placed_marks (take m objects)) far, none)

  -- the first numbers rise
  pub first_rises : (k m : ℕ) (run other : MarkRun) → k ≤ m → slice_get runs k ≡ Some run → slice_get runs m ≡ Some
      other
      → run.first ≤ other.first
  first_rises k m run other upto is there = elim (eq-or-lt_of_le upto) [
    | inl same ↦
        let one = same_run run other (sym is ∙ ap (slice_get runs) same ∙ there) in
        omega (arith, ap (λ (r : MarkRun). r.first) one)
    | inr less ↦ omega (arith, are.apart k m run other less is there)
  ]

  -- after the first run that does not begin before a place none does
  pub rest_later : (n count : ℕ) → IsNotBelow (slice_get runs count) First n
      → (m : ℕ) (other : MarkRun) → count ≤ m → slice_get runs m ≡ Some other → n ≤ other.first
  rest_later n count behind m other upto is =
      let here = at_within runs count (omega (arith, upto, slice_get_within runs m other is)) in
      let low = subst (λ (o : Option MarkRun). IsNotBelow o First n) here.1 behind in
      omega (arith, low, first_rises count m here.0 other upto here.1 is)

  pub upto : (n count : ℕ) (last : Option MarkRun) → IsLastBelow runs First n count last
      → IsNotBelow (slice_get runs count) First n → IsRunUpto objects n last
  upto n count None below behind =
      none_before n (λ m other is. rest_later n count behind m other (omega (arith, below)) is)
  upto n count (Some run) below behind = (
    (runs, are, count - 1, below.1),
    below.2,
    counted (count - 1) run below.1 n (omega (arith, below.2))
        (λ m other later is. rest_later n count behind m other (omega (arith, later, below.0)) is),
  )

  -- the run with the mark of number k, by the runs that begin with no higher one
  pub with_none : (k count : ℕ) → count ≡ 0 → IsNotBelow (slice_get runs count) Before (k + 1) → placed_marks objects
      ≤ k
  with_none k count none behind = elim (cases_lt count (length runs)) [
    | inl some ↦
        let here = at_within runs count some in
        let low = subst (λ (o : Option MarkRun). IsNotBelow o Before (k + 1)) here.1 behind in
        let first = none_before here.0.first
        (λ m other is. first_rises count m here.0 other (omega (arith, none)) here.1 is) in
        absurd (omega (arith, low, (are.each count here.0 here.1).before, first))
    | inr past ↦
        let all = none_before (length objects)
        (λ m other is. absurd (omega (arith, past, none, slice_get_within runs m other is))) in
        omega (arith, all, marks_all objects)
  ]

  pub with_last : (k count : ℕ) (run : MarkRun) → IsLastBelow runs Before (k + 1) count (Some run)
      → IsNotBelow (slice_get runs count) Before (k + 1) → run.before + run.count ≤ k → placed_marks objects ≤ k
  with_last k count run below behind few =
      let one = are.each (count - 1) run below.1 in
      let begun = one.marks run.first (omega arith) (omega (arith, one.some)) in
      elim (cases_lt count (length runs)) [
        | inl some ↦
            let here = at_within runs count some in
            let low = subst (λ (o : Option MarkRun). IsNotBelow o Before (k + 1)) here.1 behind in
            let touch = are.apart (count - 1) count run here.0 (omega (arith, below.0)) below.1 here.1 in
            let all = counted (count - 1) run below.1 here.0.first (omega (arith, touch))
            (λ m other later is. first_rises count m here.0 other (omega (arith, later, below.0)) here.1 is) in
            absurd (omega (arith, low, (are.each count here.0 here.1).before, all, touch, few))
        | inr past ↦
            let all = counted (count - 1) run below.1 (length objects)
            (omega (arith, mark_within objects run.first begun))
            (λ m other later is. absurd (omega (arith, past, later, below.0, slice_get_within runs m other is))) in
            omega (arith, all, marks_all objects, few)
      ]

-- a search among the runs of a partition takes at most 24 steps
pub few_steps : (objects : List Placed) (old new : ℕ) → AddsDigitsOfRuns objects old new → length objects ≤ 16000000
    → new ≤ old + 24
few_steps objects old new steps few =
    at_most_24 old new (length steps.0) steps.2 (omega (arith, no_more_runs objects steps.0 steps.1, few))
