-- The filemarks of an index, by their runs.
use Rattle.std.proofs.Common.{◌≡◌, ℕ, ◌<◌, ◌≤◌, ◌+◌, ◌-◌, List, map, take, length, sym, ◌∙◌, ap, arith, Some}
use Rattle.std.specs.Prelude.{slice_get, Option}
use Rattle.std.specs.Option.{option_map}
use Rattle.std.proofs.lemmas.Option.{slice_get-map}
use Rattle.volume_core.specs.declared.objects.Object.{Object}
use Rattle.volume_core.specs.declared.objects.Kind.TheVariants as Kinds
use Rattle.volume_core.specs.Volume.{IsMarkOf, kind_at, kind_in}
use Rattle.object_index.specs.declared.places.Placed.{Placed}
use Rattle.object_index.specs.declared.runs.MarkRun.{MarkRun}
use Rattle.object_index.specs.Places.{PlacedPart, blank, filled, outline, placed_objects}
use Rattle.object_index.specs.MarkRuns.{HasMarkAt, IsMarkRun, IsRunAmong, placed_marks}
use Rattle.object_index.specs.MarkFacts.{marks_outlined, objects_outlined}
use Rattle.object_index.proofs.PlacedMarks.{all_counted, mark_within}

module _ (parts : List PlacedPart) (number : ℕ) where
  abbrev objects : List Placed
  objects = placed_objects parts number

  mark_seen : (at : ℕ) → HasMarkAt objects at → kind_at (outline parts) number at ≡ Some Kinds.Mark
  mark_seen at mark =
      ap (λ (row : List Object). kind_in (slice_get row at)) (objects_outlined parts number)
      ∙ ap kind_in (slice_get-map (filled blank) objects at)
      ∙ ap (λ (object : Option Placed). kind_in (option_map (filled blank) object)) mark

  whole : (run : MarkRun) → IsRunAmong objects run → IsMarkRun objects run
  whole run among = among.1.each among.2 run among.3

  -- the filemark of a number is in its run
  pub mark_of_run : (k : ℕ) (run : MarkRun) → IsRunAmong objects run → run.before ≤ k → k < run.before + run.count
      → IsMarkOf (outline parts) number k (run.first + (k - run.before))
  mark_of_run k run among low high =
      let one = whole run among in
      let at = run.first + (k - run.before) in
      let all = all_counted objects run.first (k - run.before)
      (λ place near far. one.marks place near (omega (arith, far, low, high))) in
      record {
        mark = mark_seen at (one.marks at (omega arith) (omega (arith, low, high)));
        before = omega (arith, marks_outlined parts number at, all, one.before, low);
      }

  -- a run lies among the objects
  pub run_within : (run : MarkRun) → IsRunAmong objects run → run.first + run.count ≤ length objects
  run_within run among =
      let one = whole run among in
      let last = run.first + run.count - 1 in
      let mark = one.marks last (omega (arith, one.some)) (omega (arith, one.some)) in
      omega (arith, mark_within objects last mark, one.some)
