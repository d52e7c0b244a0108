-- What changes take of a side and of a body, by how many they are and the bytes of their blocks.
use Rattle.std.proofs.Common.{◌≡◌, ℕ, ◌+◌, ◌*◌, List, [], ◌∷◌, length, sum_by, refl, arith, length-append}
use Rattle.std.proofs.lemmas.List.Concat.{flat_map-cons}
use Rattle.std.proofs.lemmas.List.Sums.{sum_by-cons}
use Rattle.std.proofs.Common.{ap}
use Rattle.volume_core.specs.declared.changes.Change.{Change}
use Rattle.volume_core.specs.declared.changes.Change.TheVariants.{Put, Marks, Erase}
use Rattle.volume_core.specs.Medium.{block_bytes, frame_size}
use Rattle.tape_buffer.specs.Limits.{frame_of}
use Rattle.change_records.specs.Records.{spell_all, spell_change, spell_head}

-- a record has 10 bytes and its block's
record_of : (change : Change) → length (spell_change change) ≡ 10 + block_bytes change
record_of (Put part at block) = length-append (spell_head 1 part at (length block)) block
record_of (Marks part at count) = refl
record_of (Erase part at) = refl

pub frames_of : (changes : List Change) → sum_by frame_size changes ≡ 15 * length changes + sum_by block_bytes changes
frames_of [] = refl
frames_of (change ∷ changes) =
    omega (
      arith,
      frames_of changes,
      frame_of change,
      sum_by-cons frame_size change changes,
      sum_by-cons block_bytes change changes,
    )

pub records_of : (changes : List Change)
    → length (spell_all changes) ≡ 10 * length changes + sum_by block_bytes changes
records_of [] = refl
records_of (change ∷ changes) =
    omega (
      arith,
      records_of changes,
      record_of change,
      ap (λ (l : List ℕ). length l) (flat_map-cons spell_change change changes),
      length-append (spell_change change) (spell_all changes),
      sum_by-cons block_bytes change changes,
    )
