-- The tables of a partition after a cut, one more block, or more filemarks.
use Rattle.std.proofs.Common.{◌≡◌, ℕ, ◌<◌, ◌≤◌, ◌+◌, ◌-◌, ◌^◌, List, [], ◌∷◌, ◌++◌, length, take, replicate, refl, sym, ◌∙◌, ap, subst, arith, append_assoc, length-append, Some}
use Rattle.std.specs.Prelude.{slice_get, Option}
use Rattle.std.proofs.lemmas.List.{length-take-le, take-append-le, take_all}
use Rattle.std.proofs.lemmas.List.Sums.{sum_by-append}
use Rattle.object_index.specs.declared.places.Placed.{Placed}
use Rattle.object_index.specs.declared.places.Placed.TheVariants.{Block, Mark}
use Rattle.object_index.specs.declared.runs.MarkRun.{MarkRun}
use Rattle.object_index.specs.declared.tables.BlockEntry.{BlockEntry}
use Rattle.object_index.specs.declared.halving.Key.TheVariants.{First}
use Rattle.object_index.specs.MarkRuns.{AreRunsOf, HasMarkAt, placed_marks}
use Rattle.object_index.specs.Inner.RunSearch.{IsLastBelow, IsNotBelow}
use Rattle.object_index.specs.Inner.Tables.{AreTables, IsSplitAt, IsTable, blocks_of, cost_of_objects, cost_of_placed, objects_of, padded}
use Rattle.object_index.proofs.Rows.{slice_get_in_take}
use Rattle.object_index.proofs.PlacedMarks.{mark_within}
use Rattle.object_index.proofs.RunChanges.{staying_runs, one_behind, runs_with_block, runs_with_marks}
use Rattle.object_index.proofs.TableLemmas.{blocks_push, length_padded, marks_of_blocks, no_mark_last, padded_none, padded_on, table_push, table_take}
use Rattle.object_index.proofs.SplitLemmas.{cost_within, front_length, front_taken, mark_behind_front, taken}

-- no object, no entry
pub no_tables : AreTables [] [] 0
no_tables = record {
  table = λ k entry is. absurd (cc);
  within = omega arith;
  are_runs = record {
    each = λ k run is. absurd (cc);
    apart = λ k n run other less is there. absurd (cc);
    all = λ at mark. absurd (cc);
  };
  cost = omega arith;
}

-- the runs before the object after the last of some blocks, and a run from there on
module _ (entries : List BlockEntry) (objects : List Placed) (runs : List MarkRun) (are : AreRunsOf objects runs)
    (end count : ℕ) (last : Option MarkRun) (below : IsLastBelow runs First end count last)
    (behind : IsNotBelow (slice_get runs count) First end) (end_is : end ≡ length (blocks_of entries))
    (begins : take (length (blocks_of entries)) objects ≡ blocks_of entries) where
  abbrev front : List Placed
  front = blocks_of entries

  pub ends : (at : ℕ) → at + 1 ≡ end → HasMarkAt objects at → ⊥
  ends at next mark =
      no_mark_last entries at (next ∙ end_is)
      (ap (λ (l : List Placed). slice_get l at) (sym begins)
      ∙ slice_get_in_take (length front) objects at (omega (arith, next, end_is)) ∙ mark)

  staying_are : AreRunsOf front (take count runs)
  staying_are =
      subst (λ (l : List Placed). AreRunsOf l (take count runs))
      (ap (λ (n : ℕ). take n objects) end_is ∙ begins)
      (staying_runs objects runs are end count last below behind ends)

  pub blocks_few : length entries ≤ end
  blocks_few = omega (arith, marks_of_blocks entries, end_is)

  pub ended_with_none : (n : ℕ) → n ≡ end → AreRunsOf (padded front n) (take count runs)
  ended_with_none n same =
      subst (λ (l : List Placed). AreRunsOf l (take count runs))
      (sym (ap (padded front) (same ∙ end_is) ∙ padded_none front)) staying_are

  pub ended_with_run : (n : ℕ) (run : MarkRun) → end < n
      → run ≡ record { first = end; count = n - end; before = end - length entries }
      → AreRunsOf (padded front n) (take count runs ++ run ∷ [])
  ended_with_run n run less is =
      let first_is : run.first ≡ end = ap (λ (r : MarkRun). r.first) is in
      let count_is : run.count ≡ n - end = ap (λ (r : MarkRun). r.count) is in
      let before_is : run.before ≡ end - length entries = ap (λ (r : MarkRun). r.before) is in
      let size : run.count ≡ n - length front = omega (arith, count_is, end_is) in
      subst (λ (m : ℕ). AreRunsOf (front ++ replicate m Mark) (take count runs ++ run ∷ [])) size
      (runs_with_marks front (take count runs) staying_are (no_mark_last entries) run
      (omega (arith, count_is, less)) (first_is ∙ end_is)
      (omega (arith, before_is, marks_of_blocks entries, end_is)))

-- a cut
module _ (entries : List BlockEntry) (runs : List MarkRun) (total n staying end count : ℕ) (last : Option MarkRun)
    (tables : AreTables entries runs total) (split : IsSplitAt entries n staying) (few : staying ≤ length entries)
    (less : n < total) (end_is : end ≡ length (blocks_of (take staying entries)))
    (below : IsLastBelow runs First end count last) (behind : IsNotBelow (slice_get runs count) First end) where
  low : n ≤ total
  low = omega (arith, less)

  begins_so : take (length (blocks_of (take staying entries))) (objects_of entries total) ≡ blocks_of (take staying
      entries)
  begins_so = front_taken entries total n staying tables.table tables.within split few low

  pub objects_cut : objects_of (take staying entries) n ≡ take n (objects_of entries total)
  objects_cut = sym (taken entries total n staying tables.table tables.within split few low)

  cut_within : length (blocks_of (take staying entries)) ≤ n
  cut_within = front_length entries total n staying tables.table tables.within split few low

  cut_cost : cost_of_objects (objects_of (take staying entries) n) < 2 ^ 64
  cut_cost =
      omega (arith, ap cost_of_objects objects_cut, cost_within (objects_of entries total) n, tables.cost)

  pub staying_few : staying ≤ end
  staying_few =
      omega (
        arith,
        length-take-le staying entries few,
        blocks_few (take staying entries) (objects_of entries total) runs tables.are_runs end count last below behind
            end_is
            begins_so,
      )

  pub run_there : end < n → count < length runs
  run_there more =
      one_behind (objects_of entries total) runs tables.are_runs end count last below behind
      (ends (take staying entries) (objects_of entries total) runs tables.are_runs end count last below behind end_is
      begins_so)
      (subst (HasMarkAt (objects_of entries total)) (sym end_is)
      (mark_behind_front entries total n staying tables.table tables.within split few low (omega (
        arith,
        more,
        end_is,
      ))))

  pub cut_with_none : n ≤ end → AreTables (take staying entries) (take count runs) n
  cut_with_none all = record {
    table = table_take staying entries tables.table;
    within = cut_within;
    are_runs =
        ended_with_none (take staying entries) (objects_of entries total) runs tables.are_runs end count last below
        behind
        end_is begins_so n (omega (arith, all, end_is, cut_within));
    cost = cut_cost;
  }

  pub cut_with_run : (run : MarkRun) → end < n → run ≡ record { first = end; count = n - end; before = end - staying }
      → AreTables (take staying entries) (take count runs ++ run ∷ []) n
  cut_with_run run more is =
      let size : length (take staying entries) ≡ staying = length-take-le staying entries few in
      let made : ℕ → MarkRun = λ m. record { first = end; count = n - end; before = end - m } in
      record {
        table = table_take staying entries tables.table;
        within = cut_within;
        are_runs =
            ended_with_run (take staying entries) (objects_of entries total) runs tables.are_runs end count last below
            behind
            end_is begins_so n run more (is ∙ ap made (sym size));
        cost = cut_cost;
      }

-- one more block
module _ (entries : List BlockEntry) (runs : List MarkRun) (total : ℕ) (tables : AreTables entries runs total)
    (entry : BlockEntry) (number_is : entry.number ≡ total) where
  abbrev block : List Placed
  block = Block entry.place entry.size ∷ []

  blocks_are : blocks_of (entries ++ entry ∷ []) ≡ objects_of entries total ++ block
  blocks_are =
      blocks_push entries entry
      ∙ ap (λ (n : ℕ). padded (blocks_of entries) n ++ block) number_is

  length_is : length (blocks_of (entries ++ entry ∷ [])) ≡ total + 1
  length_is =
      omega (
        arith,
        ap length blocks_are,
        length-append (objects_of entries total) block,
        length_padded (blocks_of entries) total tables.within,
      )

  pub objects_with_block : objects_of (entries ++ entry ∷ []) (total + 1) ≡ objects_of entries total ++ block
  objects_with_block =
      ap (padded (blocks_of (entries ++ entry ∷ []))) (sym length_is)
      ∙ padded_none (blocks_of (entries ++ entry ∷ []))
      ∙ blocks_are

  pub tables_with_block : total + 1 < 2 ^ 32
      → entry.cost ≡ cost_of_objects (objects_of entries total) + entry.size + 16
      → cost_of_objects (objects_of entries total ++ block) < 2 ^ 64
      → AreTables (entries ++ entry ∷ []) runs (total + 1)
  tables_with_block fits cost_is enough =
      let here : cost_of_objects (objects_of entries total ++ block)
      ≡ cost_of_objects (objects_of entries total) + (entry.size + 16) =
      omega (arith, sum_by-append cost_of_placed (objects_of entries total) block) in
      let same : cost_of_objects (padded (blocks_of entries) entry.number ++ block)
      ≡ cost_of_objects (objects_of entries total ++ block) =
      ap (λ (n : ℕ). cost_of_objects (padded (blocks_of entries) n ++ block)) number_is in
      record {
        table = table_push entries entry tables.table (record {
          behind = omega (arith, number_is, tables.within);
          bound = omega (arith, number_is, fits);
          cost_is = omega (arith, cost_is, here, same);
        });
        within = omega (arith, length_is);
        are_runs =
            subst (λ (l : List Placed). AreRunsOf l runs) (sym objects_with_block)
            (runs_with_block (objects_of entries total) runs entry.place entry.size tables.are_runs);
        cost = omega (arith, ap cost_of_objects objects_with_block, enough);
      }

-- more filemarks
module _ (entries : List BlockEntry) (runs : List MarkRun) (total added end count : ℕ) (last : Option MarkRun)
    (tables : AreTables entries runs total) (end_is : end ≡ length (blocks_of entries))
    (below : IsLastBelow runs First end count last) (behind : IsNotBelow (slice_get runs count) First end) where
  begins_whole : take (length (blocks_of entries)) (objects_of entries total) ≡ blocks_of entries
  begins_whole =
      take-append-le (length (blocks_of entries)) (blocks_of entries)
      (replicate (total - length (blocks_of entries)) Mark) (omega arith)
      ∙ take_all (length (blocks_of entries)) (blocks_of entries) (omega arith)

  pub all_few : length entries ≤ end
  all_few =
      blocks_few entries (objects_of entries total) runs tables.are_runs end count last below behind end_is begins_whole

  pub objects_with_marks : objects_of entries (total + added) ≡ objects_of entries total ++ replicate added Mark
  objects_with_marks =
      let more : total + added - total ≡ added = omega arith in
      padded_on (blocks_of entries) total (total + added) tables.within (omega arith)
      ∙ ap (λ (m : ℕ). objects_of entries total ++ replicate m Mark) more

  pub tables_with_marks : (run : MarkRun) → 1 ≤ added
      → run ≡ record { first = end; count = total + added - end; before = end - length entries }
      → cost_of_objects (objects_of entries total ++ replicate added Mark) < 2 ^ 64
      → AreTables entries (take count runs ++ run ∷ []) (total + added)
  tables_with_marks run some is enough = record {
    table = tables.table;
    within = omega (arith, tables.within);
    are_runs =
        ended_with_run entries (objects_of entries total) runs tables.are_runs end count last below behind end_is
        begins_whole (total + added) run (omega (arith, tables.within, end_is, some)) is;
    cost = omega (arith, ap cost_of_objects objects_with_marks, enough);
  }
