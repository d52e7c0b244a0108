-- Where a number parts the objects of a table.
use Rattle.std.proofs.Common.{◌≡◌, inl, inr, ℕ, zero, suc, ◌<◌, ◌≤◌, ◌+◌, ◌-◌, min, List, [], ◌∷◌, ◌++◌, length, take, drop, replicate, refl, sym, ◌∙◌, ap, subst, arith, append_assoc, length-append, Some}
use Rattle.std.specs.Prelude.{slice_get, None, Option}
use Rattle.std.proofs.lemmas.Bool.{cases_lt}
use Rattle.std.proofs.lemmas.List.{append-nil, length-replicate, take-append-drop, take-append-le, take_all}
use Rattle.std.proofs.lemmas.List.Sums.{sum_by-append}
use Rattle.std.proofs.lemmas.Option.{slice_get_past, slice_get_within}
use Rattle.object_index.specs.declared.places.Placed.{Placed}
use Rattle.object_index.specs.declared.places.Placed.TheVariants.{Block, Mark}
use Rattle.object_index.specs.declared.tables.BlockEntry.{BlockEntry}
use Rattle.object_index.specs.MarkRuns.{HasMarkAt}
use Rattle.object_index.specs.Inner.Tables.{IsBelow, IsNoLower, IsSplitAt, IsTable, blocks_of, cost_of_objects, cost_of_placed, objects_of, padded, with_block, with_blocks}
use Rattle.object_index.proofs.Rows.{at_within, slice_get_left, slice_get_right, slice_get_row, split_at, take_past}
use Rattle.object_index.proofs.TableLemmas.{end_is, in_front, length_padded, padded_on, with_more}

-- the first objects take no more than all
pub cost_within : (objects : List Placed) (n : ℕ) → cost_of_objects (take n objects) ≤ cost_of_objects objects
cost_within objects n =
    let all = sym (sum_by-append cost_of_placed (take n objects) (drop n objects))
    ∙ ap cost_of_objects (take-append-drop n objects) in
    omega (arith, all)

module _ (entries : List BlockEntry) (total at count : ℕ) (table : IsTable entries)
    (within : length (blocks_of entries) ≤ total) (split : IsSplitAt entries at count)
    (few : count ≤ length entries) (low : at ≤ total) where
  abbrev front : List Placed
  front = blocks_of (take count entries)

  abbrev objects : List Placed
  objects = objects_of entries total

  pub front_length : length front ≤ at
  front_length = elim (cases_lt 0 count) [
    | inr none ↦
        let zero_is : count ≡ 0 = omega (arith, none) in
        omega (arith, ap (λ (n : ℕ). length (blocks_of (take n entries))) zero_is)
    | inl some ↦
        let last = at_within entries (count - 1) (omega (arith, some, few)) in
        let below = subst (λ (o : Option BlockEntry). IsBelow o at) last.1 (split.before (omega (arith, some))) in
        omega (arith, below, end_is entries count last.0 table (omega (arith, some)) last.1)
  ]

  pub none_next : count ≡ length entries → objects ≡ padded front at ++ replicate (total - at) Mark
  none_next all =
      let whole : entries ≡ take count entries = sym (take_all count entries (omega (arith, all))) in
      ap (λ (l : List BlockEntry). padded (blocks_of l) total) whole
      ∙ padded_on front at total front_length low

  pub some_next : (entry : BlockEntry) → slice_get entries count ≡ Some entry
      → (more : List Placed) × (at ≤ entry.number)
      × (objects ≡ padded front at ++ (replicate (entry.number - at) Mark ++ (Block entry.place entry.size ∷ more)))
  some_next entry is =
      let high : at ≤ entry.number = subst (λ (o : Option BlockEntry). IsNoLower o at) is split.behind in
      let rest = in_front (with_block front entry) (drop (suc count) entries) in
      let block : List Placed = Block entry.place entry.size ∷ [] in
      let behind : List Placed = replicate (total - length (blocks_of entries)) Mark in
      let marks : List Placed = replicate (entry.number - at) Mark in
      let parted : blocks_of entries ≡ with_block front entry ++ rest.0 =
      ap blocks_of (split_at entries count entry is)
      ∙ with_more [] (take count entries) (entry ∷ drop (suc count) entries)
      ∙ rest.1 in
      let whole : objects ≡ (with_block front entry ++ rest.0) ++ behind = ap (λ (l : List Placed). l ++ behind)
      parted in
      let begun : with_block front entry ≡ (padded front at ++ marks) ++ block =
      ap (λ (l : List Placed). l ++ block) (padded_on front at entry.number front_length high) in (
        rest.0 ++ behind,
        high,
        whole
            ∙ append_assoc (with_block front entry) rest.0 behind
            ∙ ap (λ (l : List Placed). l ++ (rest.0 ++ behind)) begun
            ∙ append_assoc (padded front at ++ marks) block (rest.0 ++ behind)
            ∙ append_assoc (padded front at) marks (block ++ (rest.0 ++ behind)),
      )

  -- in both cases the first objects are those of the first blocks, and marks
  pub parted : (rest : List Placed) × (objects ≡ padded front at ++ rest)
  parted = elim (cases_lt count (length entries)) [
    | inl less ↦
        let next = at_within entries count less in
        let some = some_next next.0 next.1 in
        (replicate (next.0.number - at) Mark ++ (Block next.0.place next.0.size ∷ some.0), some.2)
    | inr all ↦ (replicate (total - at) Mark, none_next (omega (arith, all, few)))
  ]

  pub taken : take at objects ≡ padded front at
  taken =
      let size = length_padded front at front_length in
      let none : at - length (padded front at) ≡ 0 = omega (arith, size) in
      ap (take at) parted.1
      ∙ take_past (padded front at) parted.0 at (omega (arith, size))
      ∙ ap (λ (n : ℕ). padded front at ++ take n parted.0) none
      ∙ append-nil (padded front at)

  -- the object at the number begins the rest
  behind_is : (rest : List Placed) → objects ≡ padded front at ++ rest → slice_get objects at ≡ slice_get rest 0
  behind_is rest is =
      let size = length_padded front at front_length in
      let none : at - length (padded front at) ≡ 0 = omega (arith, size) in
      ap (λ (l : List Placed). slice_get l at) is
      ∙ slice_get_right (padded front at) rest at (omega (arith, size))
      ∙ ap (slice_get rest) none

  pub mark_behind_all : count ≡ length entries → at < total → slice_get objects at ≡ Some Mark
  mark_behind_all all inside =
      behind_is (replicate (total - at) Mark) (none_next all)
      ∙ slice_get_row (total - at) 0 Mark (omega (arith, inside))

  pub mark_before_next : (entry : BlockEntry) → slice_get entries count ≡ Some entry → at < entry.number
      → slice_get objects at ≡ Some Mark
  mark_before_next entry is less =
      let next = some_next entry is in
      let marks : List Placed = replicate (entry.number - at) Mark in
      let some : 0 < length marks = omega (arith, less, length-replicate {A = Placed} (entry.number - at) Mark) in
      behind_is (marks ++ (Block entry.place entry.size ∷ next.0)) next.2
      ∙ slice_get_left marks (Block entry.place entry.size ∷ next.0) 0 some
      ∙ slice_get_row (entry.number - at) 0 Mark (omega (arith, less))

  pub block_here : (entry : BlockEntry) → slice_get entries count ≡ Some entry → entry.number ≤ at
      → slice_get objects at ≡ Some (Block entry.place entry.size)
  block_here entry is upto =
      let next = some_next entry is in
      let none : entry.number - at ≡ 0 = omega (arith, upto) in
      behind_is (replicate (entry.number - at) Mark ++ (Block entry.place entry.size ∷ next.0)) next.2
      ∙ ap (λ (n : ℕ). slice_get (replicate n Mark ++ (Block entry.place entry.size ∷ next.0)) 0) none

  -- the first blocks, and the objects before the last of them
  pub front_taken : take (length front) objects ≡ front
  front_taken =
      let marks : List Placed = replicate (at - length front) Mark in
      ap (take (length front)) (parted.1 ∙ append_assoc front marks parted.0)
      ∙ take-append-le (length front) front (marks ++ parted.0) (omega arith)
      ∙ take_all (length front) front (omega arith)

  -- a mark follows them, unless the number is theirs
  pub mark_behind_front : length front < at → HasMarkAt objects (length front)
  mark_behind_front less =
      let marks : List Placed = replicate (at - length front) Mark in
      let none : length front - length front ≡ 0 = omega arith in
      let some : 0 < length marks = omega (arith, less, length-replicate {A = Placed} (at - length front) Mark) in
      ap (λ (l : List Placed). slice_get l (length front)) (parted.1 ∙ append_assoc front marks parted.0)
      ∙ slice_get_right front (marks ++ parted.0) (length front) (omega arith)
      ∙ ap (slice_get (marks ++ parted.0)) none
      ∙ slice_get_left marks parted.0 0 some
      ∙ slice_get_row (at - length front) 0 Mark (omega (arith, less))

-- after the last object there is none
pub none_past : (entries : List BlockEntry) (total at : ℕ) → length (blocks_of entries) ≤ total → total ≤ at
    → slice_get (objects_of entries total) at ≡ None
none_past entries total at within past =
    slice_get_past (objects_of entries total) at
    (omega (arith, past, length_padded (blocks_of entries) total within))

-- a first part, no longer than the list
pub taken_min : (objects : List Placed) (n count : ℕ) → count ≡ length objects
    → take (min n count) objects ≡ take n objects
taken_min objects n count all = elim (cases_lt count n) [
  | inl more ↦
      take_all (min n count) objects (omega (arith, more, all)) ∙ sym (take_all n objects (omega (arith, more, all)))
  | inr few ↦ (let same : min n count ≡ n = omega (arith, few) in ap (λ (m : ℕ). take m objects) same)
]
