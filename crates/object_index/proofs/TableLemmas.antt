-- The table of blocks: the objects up to each, and what they take.
use Rattle.std.proofs.Common.{◌≡◌, inl, inr, ℕ, zero, suc, ◌<◌, ◌≤◌, ◌+◌, ◌-◌, ◌*◌, List, [], ◌∷◌, ◌++◌, length, take, drop, replicate, refl, sym, ◌∙◌, ap, subst, arith, append_assoc, length-append, Some}
use Rattle.std.specs.Prelude.{slice_get, Option, if◌then◌else◌}
use Rattle.std.proofs.lemmas.Bool.{cases_lt}
use Rattle.std.proofs.lemmas.List.{append-nil, length-replicate, replicate-append-replicate, take-append-drop, take-append-le, take-take, take_all}
use Rattle.std.proofs.lemmas.List.Sums.{sum_by-append}
use Rattle.std.proofs.lemmas.List.Folds.{sum_by-replicate}
use Rattle.std.proofs.lemmas.Option.{slice_get_within}
use Rattle.vtl_base.specs.declared.limits.TheConstants.{OBJECT_COST}
use Rattle.object_index.specs.declared.places.Placed.{Placed}
use Rattle.object_index.specs.declared.places.Placed.TheVariants.{Block, Mark}
use Rattle.object_index.specs.declared.tables.BlockEntry.{BlockEntry}
use Rattle.object_index.specs.MarkRuns.{HasMarkAt, is_placed_mark, placed_marks}
use Rattle.object_index.specs.Inner.Tables.{IsBelow, IsBlockAfter, IsNoLower, IsSplitAt, IsTable, blocks_of, cost_of_objects, cost_of_placed, objects_of, padded, with_block, with_blocks}
use Rattle.object_index.proofs.Rows.{at_within, slice_get_left, slice_get_right, slice_get_row, slice_get_taken, split_at, take_next, take_past}

-- 1 for a mark, 0 for a block
abbrev mark_number : Placed → ℕ
mark_number object = if is_placed_mark object then 1 else 0

same_entry : (one other : BlockEntry) → Some one ≡ Some other → one ≡ other
same_entry one other same = cc

-- more entries
pub with_more : (objects : List Placed) (entries others : List BlockEntry)
    → with_blocks objects (entries ++ others) ≡ with_blocks (with_blocks objects entries) others
with_more objects [] others = refl
with_more objects (entry ∷ entries) others = with_more (with_block objects entry) entries others

pub blocks_push : (entries : List BlockEntry) (entry : BlockEntry)
    → blocks_of (entries ++ entry ∷ []) ≡ with_block (blocks_of entries) entry
blocks_push entries entry = with_more [] entries (entry ∷ [])

-- objects before others stay at their places
pub in_front : (objects : List Placed) (entries : List BlockEntry)
    → (rest : List Placed) × (with_blocks objects entries ≡ objects ++ rest)
in_front objects [] = ([], sym (append-nil objects))
in_front objects (entry ∷ entries) =
    let more = in_front (with_block objects entry) entries in
    let marks : List Placed = replicate (entry.number - length objects) Mark in
    let block : List Placed = Block entry.place entry.size ∷ [] in (
      marks ++ (block ++ more.0),
      more.1 ∙ append_assoc (objects ++ marks) block more.0 ∙ append_assoc objects marks (block ++ more.0),
    )

-- marks up to a number
pub length_padded : (objects : List Placed) (n : ℕ) → length objects ≤ n → length (padded objects n) ≡ n
length_padded objects n few =
    omega (
      arith,
      few,
      length-append objects (replicate (n - length objects) Mark),
      length-replicate {A = Placed} (n - length objects) Mark,
    )

pub padded_on : (objects : List Placed) (at n : ℕ) → length objects ≤ at → at ≤ n
    → padded objects n ≡ padded objects at ++ replicate (n - at) Mark
padded_on objects at n few far =
    let sum : n - length objects ≡ at - length objects + (n - at) = omega (arith, few, far) in
    ap (λ (m : ℕ). objects ++ replicate m Mark) sum
    ∙ ap (λ (l : List Placed). objects ++ l)
    (sym (replicate-append-replicate {A = Placed} (at - length objects) (n - at) Mark))
    ∙ sym (append_assoc objects (replicate (at - length objects) Mark) (replicate (n - at) Mark))

pub padded_none : (objects : List Placed) → padded objects (length objects) ≡ objects
padded_none objects =
    let none : length objects - length objects ≡ 0 = omega arith in
    ap (λ (m : ℕ). objects ++ replicate m Mark) none ∙ append-nil objects

pub cost_padded : (objects : List Placed) (n : ℕ)
    → cost_of_objects (padded objects n) ≡ cost_of_objects objects + (n - length objects) * OBJECT_COST
cost_padded objects n =
    sum_by-append cost_of_placed objects (replicate (n - length objects) Mark)
    ∙ ap (λ (m : ℕ). cost_of_objects objects + m) (sum_by-replicate cost_of_placed (n - length objects) Mark)

length_with : (objects : List Placed) (entry : BlockEntry) → length objects ≤ entry.number
    → length (with_block objects entry) ≡ entry.number + 1
length_with objects entry few =
    omega (
      arith,
      few,
      length-append (padded objects entry.number) (Block entry.place entry.size ∷ []),
      length_padded objects entry.number few,
    )

-- the first entries, of which this is the last
up_to_last : (entries : List BlockEntry) (count : ℕ) (entry : BlockEntry) → 1 ≤ count
    → slice_get entries (count - 1) ≡ Some entry
    → blocks_of (take count entries) ≡ with_block (blocks_of (take (count - 1) entries)) entry
up_to_last entries count entry some is =
    let next : count ≡ suc (count - 1) = omega (arith, some) in
    ap (λ (n : ℕ). blocks_of (take n entries)) next
    ∙ ap blocks_of (take_next entries (count - 1) entry is)
    ∙ blocks_push (take (count - 1) entries) entry

pub end_is : (entries : List BlockEntry) (count : ℕ) (entry : BlockEntry) → IsTable entries → 1 ≤ count
    → slice_get entries (count - 1) ≡ Some entry → length (blocks_of (take count entries)) ≡ entry.number + 1
end_is entries count entry table some is =
    ap length (up_to_last entries count entry some is)
    ∙ length_with (blocks_of (take (count - 1) entries)) entry (table (count - 1) entry is).behind

pub cost_is : (entries : List BlockEntry) (count : ℕ) (entry : BlockEntry) → IsTable entries → 1 ≤ count
    → slice_get entries (count - 1) ≡ Some entry → cost_of_objects (blocks_of (take count entries)) ≡ entry.cost
cost_is entries count entry table some is =
    ap cost_of_objects (up_to_last entries count entry some is) ∙ sym (table (count - 1) entry is).cost_is

-- the first entries are a table, and so they are with one more entry
pub table_take : (n : ℕ) (entries : List BlockEntry) → IsTable entries → IsTable (take n entries)
table_take n entries table k found is =
    let old = slice_get_taken n entries k found is in
    subst (λ (l : List BlockEntry). IsBlockAfter (blocks_of l) found)
    (sym (take-take k n entries (omega (arith, old.0)))) (table k found old.1)

pub table_push : (entries : List BlockEntry) (entry : BlockEntry) → IsTable entries
    → IsBlockAfter (blocks_of entries) entry → IsTable (entries ++ entry ∷ [])
table_push entries entry table last k found is = elim (cases_lt k (length entries)) [
  | inl within ↦ subst (λ (l : List BlockEntry). IsBlockAfter (blocks_of l) found)
      (sym (take-append-le k entries (entry ∷ []) (omega (arith, within))))
      (table k found (sym (slice_get_left entries (entry ∷ []) k within) ∙ is))
  | inr past ↦
      let near = slice_get_within (entries ++ entry ∷ []) k found is in
      let here : k ≡ length entries = omega (arith, past, near, length-append entries (entry ∷ [])) in
      let none : k - length entries ≡ 0 = omega (arith, here) in
      let same : entry ≡ found =
      same_entry entry found
      (ap (slice_get (entry ∷ [])) (sym none) ∙ sym (slice_get_right entries (entry ∷ []) k past) ∙ is) in
      let all : take k (entries ++ entry ∷ []) ≡ entries =
      take-append-le k entries (entry ∷ []) (omega (arith, here)) ∙ take_all k entries (omega (arith, here)) in
      subst (λ (l : List BlockEntry). IsBlockAfter (blocks_of l) found) (sym all)
      (subst (λ (e : BlockEntry). IsBlockAfter (blocks_of entries) e) same last)
]

-- the objects up to a block do not end with a mark
no_mark_behind : (objects : List Placed) (entry : BlockEntry) (at : ℕ) → at + 1 ≡ length (with_block objects entry)
    → HasMarkAt (with_block objects entry) at → ⊥
no_mark_behind objects entry at last mark =
    let front : List Placed = padded objects entry.number in
    let block : List Placed = Block entry.place entry.size ∷ [] in
    let here : at ≡ length front = omega (arith, last, length-append front block) in
    let none : at - length front ≡ 0 = omega (arith, here) in
    let other : Some (Block entry.place entry.size) ≡ Some Mark =
    ap (slice_get block) (sym none) ∙ sym (slice_get_right front block at (omega (arith, here))) ∙ mark in
    cc

ends_with_no_mark : (objects : List Placed) (entries : List BlockEntry)
    → ((at : ℕ) → at + 1 ≡ length objects → HasMarkAt objects at → ⊥)
    → (at : ℕ) → at + 1 ≡ length (with_blocks objects entries) → HasMarkAt (with_blocks objects entries) at → ⊥
ends_with_no_mark objects [] ends = ends
ends_with_no_mark objects (entry ∷ entries) ends =
    ends_with_no_mark (with_block objects entry) entries (no_mark_behind objects entry)

pub no_mark_last : (entries : List BlockEntry) (at : ℕ) → at + 1 ≡ length (blocks_of entries)
    → HasMarkAt (blocks_of entries) at → ⊥
no_mark_last entries = ends_with_no_mark [] entries (λ at last mark. omega (arith, last))

-- the marks among the objects up to a block are all but the blocks
marks_padded : (objects : List Placed) (n : ℕ)
    → placed_marks (padded objects n) ≡ placed_marks objects + (n - length objects)
marks_padded objects n =
    omega (
      arith,
      sum_by-append mark_number objects (replicate (n - length objects) Mark),
      sum_by-replicate mark_number (n - length objects) Mark,
    )

all_but_blocks : (objects : List Placed) (entries : List BlockEntry)
    → placed_marks (with_blocks objects entries) + length entries + length objects
    ≡ length (with_blocks objects entries) + placed_marks objects
all_but_blocks objects [] = omega arith
all_but_blocks objects (entry ∷ entries) =
    let front : List Placed = padded objects entry.number in
    let block : List Placed = Block entry.place entry.size ∷ [] in
    omega (
      arith,
      all_but_blocks (with_block objects entry) entries,
      length-append front block,
      length-append objects (replicate (entry.number - length objects) Mark),
      length-replicate {A = Placed} (entry.number - length objects) Mark,
      sum_by-append mark_number front block,
      marks_padded objects entry.number,
    )

pub marks_of_blocks : (entries : List BlockEntry)
    → placed_marks (blocks_of entries) + length entries ≡ length (blocks_of entries)
marks_of_blocks entries = omega (arith, all_but_blocks [] entries)
