-- What changes take of a side, each as a frame of its own, and as one frame.
use Rattle.std.specs.Prelude.{◌≡◌, ◌⊎◌, ◌+◌, ◌*◌, ◌++◌, ◌≤◌, ◌==◌, ℕ, Bool, true, false, List, [], ◌∷◌, length, sum_by, slice_index_or, if◌then◌else◌, refl}
use Rattle.std.proofs.Common.{inl, inr, ap, sym, ◌∙◌, arith, length-append}
use Rattle.std.proofs.lemmas.Bool.{cases_eq, eqb-true, ne_eqb}
use Rattle.std.proofs.lemmas.List.Sums.{sum_by-append}
use Rattle.volume_core.specs.declared.changes.Change.{Change}
use Rattle.volume_core.specs.declared.changes.Change.TheVariants.{Put, Marks, Erase}
use Rattle.volume_core.specs.Medium.{block_bytes, frame_size}
use Rattle.change_records.specs.Records.{spell_all}
use Rattle.volume_core.specs.Volume.{part_of}
use Rattle.cartridge.specs.Answers.{KeepsReserved, entries_of}
use Rattle.cartridge.specs.State.{Reserved}
use Rattle.tape_buffer.specs.State.{IsReservedFor}
use Rattle.tape_buffer.specs.Limits.{frame_of}
use Rattle.tape_buffer.proofs.PendingLemmas.{frames_of, records_of}

-- frames of their own take 5 bytes each beside the records
pub frames_of_each : (changes : List Change)
    → sum_by frame_size changes ≡ length (spell_all changes) + 5 * length changes
frames_of_each changes = omega (arith, frames_of changes, records_of changes)

-- what has no length is empty
pub listed_none : {A : Type 0} (xs : List A) (empty : Bool) → empty ≡ (length xs == 0) → empty ≡ true → xs ≡ []
listed_none [] empty is none = refl
listed_none (x ∷ xs) empty is none = absurd (omega (arith, eqb-true (length (x ∷ xs)) 0 (sym is ∙ none)))

-- and what is not empty has one at least
pub listed_some : {A : Type 0} (xs : List A) (empty : Bool) → empty ≡ (length xs == 0) → empty ≡ false
    → 1 ≤ length xs
listed_some [] empty is some = let never : true ≡ false = sym is ∙ some in absurd (cc)
listed_some (x ∷ xs) empty is some = omega arith

-- as one frame they take no more
pub one_frame_fits : (changes : List Change) → 1 ≤ length changes
    → length (spell_all changes) + 5 ≤ sum_by frame_size changes
one_frame_fits changes some = omega (arith, frames_of_each changes, some)

-- with one more
pub spelled_more : (changes : List Change) (change : Change)
    → length (spell_all (changes ++ change ∷ [])) + 5 ≡ length (spell_all changes) + frame_size change
spelled_more changes change =
    omega (
      arith,
      records_of changes,
      records_of (changes ++ change ∷ []),
      frame_of change,
      length-append changes (change ∷ []),
      sum_by-append block_bytes changes (change ∷ []),
    )

-- one or none is one at most
at_most_one : (same : Bool) → (if same then 1 else 0) ≤ 1
at_most_one true = omega arith
at_most_one false = omega arith

-- a change puts one block or run of marks at most
one_entry : (part : ℕ) (change : Change) → entries_of part change ≤ 1
one_entry part (Put p at block) = at_most_one (part == p)
one_entry part (Marks p at count) = at_most_one (part == p)
one_entry part (Erase p at) = omega arith

-- and none elsewhere
no_entry : (part : ℕ) (change : Change) → (part ≡ part_of change → ⊥) → entries_of part change ≡ 0
no_entry part (Put p at block) other = ap (λ (b : Bool). if b then 1 else 0) (ne_eqb part p other)
no_entry part (Marks p at count) other = ap (λ (b : Bool). if b then 1 else 0) (ne_eqb part p other)
no_entry part (Erase p at) other = refl

-- so many changes put so many at most
pub few_entries : (part : ℕ) (changes : List Change) → sum_by (entries_of part) changes ≤ length changes
few_entries part [] = omega arith
few_entries part (change ∷ changes) =
    let next = sum_by-append (entries_of part) (change ∷ []) changes in
    omega (arith, next, one_entry part change, few_entries part changes)

-- more that is reserved is enough for what it was enough for
pub reserved_still : (old new : Reserved) (changes : List Change) → KeepsReserved old new → IsReservedFor old changes
    → IsReservedFor new changes
reserved_still old new changes keeps enough =
    record {
      frames = λ some. omega (arith, enough.frames some, keeps.frames);
      body = omega (arith, enough.body, keeps.body);
      entries = λ part. omega (arith, enough.entries part, keeps.entries part);
    }

-- it is enough for one change more where its frame and its entry were reserved too
pub reserved_more : (old new : Reserved) (changes : List Change) (change : Change) → KeepsReserved old new
    → IsReservedFor old changes → length (spell_all (changes ++ change ∷ [])) ≤ new.body → 1 ≤ new.frames
    → length changes + 1 ≤ slice_index_or new.entries (part_of change) 0
    → IsReservedFor new (changes ++ change ∷ [])
reserved_more old new changes change keeps enough body frames entries =
    record { frames = λ some. frames; body = body; entries = λ part. by part (cases_eq part (part_of change)) }
  where
    sum_more : (part : ℕ) → sum_by (entries_of part) (changes ++ change ∷ [])
        ≡ sum_by (entries_of part) changes + sum_by (entries_of part) (change ∷ [])
    sum_more part = sum_by-append (entries_of part) changes (change ∷ [])

    by : (part : ℕ) → (part ≡ part_of change) ⊎ (part ≡ part_of change → ⊥)
        → sum_by (entries_of part) (changes ++ change ∷ []) ≤ slice_index_or new.entries part 0
    by part (inl same) =
        omega (
          arith,
          sum_more part,
          few_entries part changes,
          few_entries part (change ∷ []),
          ap (λ (p : ℕ). slice_index_or new.entries p 0) same,
          entries,
        )
    by part (inr other) =
        omega (arith, sum_more part, no_entry part change other, enough.entries part, keeps.entries part)
