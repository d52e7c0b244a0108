-- The runs of filemarks before a block, and after a block or filemarks are added.
use Rattle.std.proofs.Common.{◌≡◌, inl, inr, ℕ, zero, suc, ◌<◌, ◌≤◌, ◌+◌, ◌-◌, ◌++◌, List, [], ◌∷◌, length, take, replicate, sym, ◌∙◌, ap, subst, arith, length-append, Some}
use Rattle.std.specs.Prelude.{slice_get, Option, None}
use Rattle.std.proofs.lemmas.Bool.{cases_lt}
use Rattle.std.proofs.lemmas.List.{length-replicate, take-append-le, take-take, take_all}
use Rattle.std.proofs.lemmas.Option.{slice_get_within}
use Rattle.object_index.specs.declared.places.Placed.{Placed}
use Rattle.object_index.specs.declared.places.Placed.TheVariants.{Block, Mark}
use Rattle.object_index.specs.declared.runs.MarkRun.{MarkRun}
use Rattle.object_index.specs.declared.halving.Key.TheVariants.{First}
use Rattle.object_index.specs.MarkRuns.{AreRunsOf, HasMarkAt, IsMarkRun, placed_marks}
use Rattle.object_index.specs.Inner.RunSearch.{IsLastBelow, IsNotBelow}
use Rattle.object_index.proofs.PlacedMarks.{mark_within, same_run}
use Rattle.object_index.proofs.RunLemmas.{first_rises, rest_later}
use Rattle.object_index.proofs.Rows.{slice_get_in_take, slice_get_left, slice_get_right, slice_get_row, slice_get_taken}

module _ (objects : List Placed) (runs : List MarkRun) (are : AreRunsOf objects runs) where
  -- the runs before a place that does not follow a mark
  module _ (end staying : ℕ) (last : Option MarkRun) (below : IsLastBelow runs First end staying last)
      (behind : IsNotBelow (slice_get runs staying) First end)
      (starts : (at : ℕ) → at + 1 ≡ end → HasMarkAt objects at → ⊥) where
    begins_below : (which : Option MarkRun) → IsLastBelow runs First end staying which
        → (k : ℕ) (run : MarkRun) → k < staying → slice_get runs k ≡ Some run → run.first < end
    begins_below None none k run less is = absurd (omega (arith, none, less))
    begins_below (Some other) some k run less is =
        omega (arith, some.2, first_rises objects runs are k (staying - 1) run other (omega (arith, less)) is some.1)

    ends_before : (k : ℕ) (run : MarkRun) → k < staying → slice_get runs k ≡ Some run → run.first + run.count ≤ end
    ends_before k run less is =
        let begun = begins_below last below k run less is in
        elim (cases_lt end (run.first + run.count)) [
          | inr within ↦ within
          | inl past ↦ absurd (starts (end - 1) (omega (arith, begun))
              ((are.each k run is).marks (end - 1) (omega (arith, begun)) (omega (arith, past, begun))))
        ]

    pub staying_runs : AreRunsOf (take end objects) (take staying runs)
    staying_runs = record {
      each = λ k run is.
          let old = slice_get_taken staying runs k run is in
          let one = are.each k run old.1 in
          let within = ends_before k run old.0 old.1 in
          record {
            some = one.some;
            marks = λ at low high.
                slice_get_in_take end objects at (omega (arith, high, within)) ∙ one.marks at low high;
            before =
                one.before
                ∙ ap placed_marks (sym (take-take run.first end objects (omega (arith, within))));
          };
      apart = λ k n run other less is there.
          are.apart k n run other less (slice_get_taken staying runs k run is).1
          (slice_get_taken staying runs n other there).1;
      all = λ at mark.
          let old = slice_get_taken end objects at Mark mark in
          let found = are.all at old.1 in
          let less : found.0 < staying = elim (cases_lt found.0 staying) [
            | inl less ↦ less
            | inr more ↦ absurd (omega (
              arith,
              rest_later objects runs are end staying behind found.0 found.1 more
                  found.2,
              found.3,
              old.0,
            ))
          ] in
          (found.0, found.1, slice_get_in_take staying runs found.0 less ∙ found.2, found.3, found.4);
    }

    -- where it follows a mark, one more run begins there
    pub one_behind : HasMarkAt objects end → staying < length runs
    one_behind mark =
        let found = are.all end mark in
        elim (cases_lt found.0 staying) [
          | inl less ↦ absurd (omega (arith, ends_before found.0 found.1 less found.2, found.4))
          | inr more ↦ omega (arith, more, slice_get_within runs found.0 found.1 found.2)
        ]

-- a run of objects is one of more objects
longer : (objects more : List Placed) (run : MarkRun) → IsMarkRun objects run → IsMarkRun (objects ++ more) run
longer objects more run one =
    let begun = one.marks run.first (omega arith) (omega (arith, one.some)) in
    record {
      some = one.some;
      marks = λ at low high.
          let mark = one.marks at low high in
          slice_get_left objects more at (mark_within objects at mark) ∙ mark;
      before =
          one.before
          ∙ ap placed_marks (sym (take-append-le run.first objects more
          (omega (arith, mark_within objects run.first begun))));
    }

no_mark : (place size at : ℕ) → slice_get (Block place size ∷ []) at ≡ Some Mark → ⊥
no_mark place size zero mark = (let other : Block place size ≡ Mark = cc in cc)
no_mark place size (suc at) mark = cc

-- one more block, and the runs stay
pub runs_with_block : (objects : List Placed) (runs : List MarkRun) (place size : ℕ) → AreRunsOf objects runs
    → AreRunsOf (objects ++ Block place size ∷ []) runs
runs_with_block objects runs place size are = record {
  each = λ k run is. longer objects (Block place size ∷ []) run (are.each k run is);
  apart = are.apart;
  all = λ at mark. elim (cases_lt at (length objects)) [
    | inl within ↦ are.all at (sym (slice_get_left objects (Block place size ∷ []) at within) ∙ mark)
    | inr past ↦ absurd (no_mark place size (at - length objects)
        (sym (slice_get_right objects (Block place size ∷ []) at past) ∙ mark))
  ];
}

-- marks after a block, and one more run
module _ (objects : List Placed) (runs : List MarkRun) (are : AreRunsOf objects runs)
    (ends : (at : ℕ) → at + 1 ≡ length objects → HasMarkAt objects at → ⊥)
    (run : MarkRun) (some : 1 ≤ run.count) (first_is : run.first ≡ length objects)
    (before_is : run.before ≡ placed_marks objects) where
  abbrev marks : List Placed
  marks = replicate run.count Mark

  its_own : IsMarkRun (objects ++ marks) run
  its_own = record {
    some = some;
    marks = λ at low high.
        slice_get_right objects marks at (omega (arith, low, first_is))
        ∙ slice_get_row run.count (at - length objects) Mark (omega (arith, low, high, first_is));
    before =
        before_is
        ∙ ap placed_marks
        (sym (take_all run.first objects (omega (arith, first_is)))
        ∙ sym (take-append-le run.first objects marks (omega (arith, first_is))));
  }

  -- the run is what comes after the others
  the_last : (k : ℕ) (other : MarkRun) → length runs ≤ k → slice_get (runs ++ run ∷ []) k ≡ Some other
      → (k ≡ length runs) × (run ≡ other)
  the_last k other past is =
      let near = slice_get_within (runs ++ run ∷ []) k other is in
      let none : k - length runs ≡ 0 = omega (arith, past, near, length-append runs (run ∷ [])) in
      let same : run ≡ other =
      same_run run other
      (ap (slice_get (run ∷ [])) (sym none) ∙ sym (slice_get_right runs (run ∷ []) k past) ∙ is) in
      (omega (arith, past, none), same)

  old_one : (k : ℕ) (other : MarkRun) → k < length runs → slice_get (runs ++ run ∷ []) k ≡ Some other
      → slice_get runs k ≡ Some other
  old_one k other within is = sym (slice_get_left runs (run ∷ []) k within) ∙ is

  ends_apart : (k : ℕ) (other : MarkRun) → slice_get runs k ≡ Some other → other.first + other.count < length objects
  ends_apart k other is =
      let one = are.each k other is in
      let last = other.first + other.count - 1 in
      let mark = one.marks last (omega (arith, one.some)) (omega (arith, one.some)) in
      let within = mark_within objects last mark in
      elim (cases_lt (other.first + other.count) (length objects)) [
        | inl less ↦ less
        | inr more ↦ absurd (ends last (omega (arith, within, more, one.some)) mark)
      ]

  pub runs_with_marks : AreRunsOf (objects ++ marks) (runs ++ run ∷ [])
  runs_with_marks = record {
    each = λ k other is. elim (cases_lt k (length runs)) [
      | inl within ↦ longer objects marks other (are.each k other (old_one k other within is))
      | inr past ↦ subst (λ (r : MarkRun). IsMarkRun (objects ++ marks) r) (the_last k other past is).1 its_own
    ];
    apart = λ k n one other less is there. elim (cases_lt n (length runs)) [
      | inl within ↦ are.apart k n one other less (old_one k one (omega (arith, less, within)) is)
          (old_one n other within there)
      | inr past ↦
          let last = the_last n other past there in
          let before = ends_apart k one (old_one k one (omega (arith, less, last.0)) is) in
          omega (arith, before, first_is, ap (λ (r : MarkRun). r.first) last.1)
    ];
    all = λ at mark. elim (cases_lt at (length objects)) [
      | inl within ↦
          let found = are.all at (sym (slice_get_left objects marks at within) ∙ mark) in (
            found.0,
            found.1,
            slice_get_left runs (run ∷ []) found.0 (slice_get_within runs found.0 found.1 found.2) ∙ found.2,
            found.3,
            found.4,
          )
      | inr past ↦
          let near = mark_within (objects ++ marks) at mark in
          let zero_is : length runs - length runs ≡ 0 = omega arith in (
            length runs,
            run,
            slice_get_right runs (run ∷ []) (length runs) (omega arith) ∙ ap (slice_get (run ∷ [])) zero_is,
            omega (arith, past, first_is),
            omega (
              arith,
              near,
              first_is,
              length-append objects marks,
              length-replicate {A = Placed} run.count Mark,
            ),
          )
    ];
  }
