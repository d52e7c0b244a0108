-- What was given, frame by frame.
use Rattle.std.proofs.Common.{◌≡◌, ◌≤◌, inl, inr, ℕ, List, [], ◌∷◌, length, map, refl, sym, subst, ap, ◌∙◌, arith}
use Rattle.std.specs.Prelude.{sum_by}
use Rattle.std.proofs.lemmas.List.Sums.{sum_by-cons}
use Rattle.change_records.specs.declared.records.Record.{Record}
use Rattle.change_records.specs.declared.records.Record.TheVariants.{Put, Marks, Erase}
use Rattle.change_records.specs.Records.{size_of, spell_all}
use Rattle.volume_core.specs.declared.changes.Change.{Change}
use Rattle.tape_disk.specs.Disk.{DiskState, IsDisk}
use Rattle.cartridge_sides.specs.Copying.{GivesAll, IsCopyBody}
use Rattle.volume_copy.specs.declared.entries.Entry.{Entry}
use Rattle.volume_copy.specs.Entries.{entry_size}
use Rattle.volume_copy.specs.FrameFacts.{first_is, frames_follow}
use Rattle.volume_copy.specs.Frames.{frames_by}
use Rattle.volume_copy.specs.Matching.{AllFramesMatch}
use Rattle.volume_copy.specs.Spelling.{SpellsFrame}
use Rattle.volume_reclaim.specs.Inner.Giving.{GivesNext}
use Rattle.volume_reclaim.specs.ReadFacts.{lies_still, read_nothing, read_on}
use Rattle.volume_reclaim.specs.Reading.{LiesOnDisk, OnlyRead}

some_bytes : (item : Record) → 1 ≤ size_of item
some_bytes (Put part at size) = omega arith
some_bytes (Marks part at count) = omega arith
some_bytes (Erase part at) = omega arith

some_taken : (frame : List Entry) → 1 ≤ length frame → 1 ≤ sum_by entry_size frame
some_taken [] some = absurd (omega arith)
some_taken (entry ∷ frame) some = omega (arith, sum_by-cons entry_size entry frame, some_bytes entry.item)

-- the body of a frame may be in a copy
pub copy_body : (honest : Type 0) (lies : List ℕ → ℕ → Type 0) (frame rest items : List Entry) (body : List ℕ)
    → SpellsFrame honest lies frame rest items body → IsCopyBody body
copy_body honest lies frame rest items body spells =
    (omega (arith, spells.sized, some_taken frame spells.first.some), omega (arith, spells.sized, spells.first.fits))

no_frames : (P : List ℕ → ℕ → Type 0) (frames : List (List Change)) (others : List (List Entry))
    → AllFramesMatch P frames others → length others ≡ 0 → frames ≡ []
no_frames P [] [] match none = refl
no_frames P [] (other ∷ others) match none = refl
no_frames P (frame ∷ frames) [] match none = absurd match
no_frames P (frame ∷ frames) (other ∷ others) match none = absurd (omega arith)

-- for a source and the disk that it reads
module _ {S : Type 0} (gives : S → List ℕ → S → Type 0) (disk : S → DiskState) (items : S → List Entry)
    (means : (a : S) (body : List ℕ) (b : S) → gives a body b → OnlyRead (disk a) (disk b)
    × GivesNext (disk a).honest (LiesOnDisk (disk a)) (items a) body (items b))
    (laws : (a : S) → (disk a).honest → IsDisk (disk a)) where
  -- nothing is written
  pub all_read : (bodies : List (List ℕ)) (a b : S) → GivesAll gives a bodies b → OnlyRead (disk a) (disk b)
  all_read [] a b same = subst (λ (s : S). OnlyRead (disk a) (disk s)) (sym same) (read_nothing (disk a) (laws a))
  all_read (body ∷ bodies) a b given =
      read_on (disk a) (disk given.0) (disk b) (means a body given.0 given.1).0 (all_read bodies given.0 b given.2)

  next_given : (frames : List (List Change)) (body : List ℕ) (bodies : List (List ℕ)) (a mid b : S)
      → (disk a).honest → AllFramesMatch (LiesOnDisk (disk a)) frames (frames_by entry_size (items a))
      → gives a body mid → length (body ∷ bodies) ≡ length (frames_by entry_size (items a))
      → ((rest : List (List Change)) → (disk mid).honest
      → AllFramesMatch (LiesOnDisk (disk mid)) rest (frames_by entry_size (items mid))
      → length bodies ≡ length (frames_by entry_size (items mid)) → bodies ≡ map spell_all rest)
      → body ∷ bodies ≡ map spell_all frames
  next_given frames body bodies a mid b honest match given count rest = by (means a body mid given).1
    where
      read : OnlyRead (disk a) (disk mid)
      read = (means a body mid given).0

      in_order : (all : List (List Change)) (frame : List Entry) (others : List (List Entry))
          → SpellsFrame (disk a).honest (LiesOnDisk (disk a)) frame (items mid) (items a) body
          → others ≡ frames_by entry_size (items mid)
          → AllFramesMatch (LiesOnDisk (disk a)) all (frame ∷ others)
          → length bodies ≡ length others → body ∷ bodies ≡ map spell_all all
      in_order [] frame others spells are here count_here = absurd here
      in_order (first ∷ all) frame others spells are here count_here =
          (λ i. spells.spelled honest first here.0 i ∷ rest all (read.keeps.stays_honest honest)
          (frames_follow (LiesOnDisk (disk a)) (LiesOnDisk (disk mid))
          (λ block place lies. lies_still (disk a) (disk mid) block place read lies) all
          (frames_by entry_size (items mid))
          (subst (AllFramesMatch (LiesOnDisk (disk a)) all) are here.1))
          (count_here ∙ ap (λ (l : List (List Entry)). length l) are) i)

      by : GivesNext (disk a).honest (LiesOnDisk (disk a)) (items a) body (items mid)
          → body ∷ bodies ≡ map spell_all frames
      by (inl made) =
          let are = first_is entry_size made.0 (items mid) (items a) made.1.first in
          in_order frames made.0 (frames_by entry_size (items mid)) made.1 refl
          (subst (AllFramesMatch (LiesOnDisk (disk a)) frames) are match)
          (omega (arith, count, ap (λ (l : List (List Entry)). length l) are))
      by (inr ended) =
          let none = ap (λ (l : List Entry). length (frames_by entry_size l)) ended.0 in
          absurd (omega (arith, count, none))

  -- the bodies that were given are what the frames spell, if they are as many
  pub all_given : (frames : List (List Change)) (bodies : List (List ℕ)) (a b : S) → (disk a).honest
      → AllFramesMatch (LiesOnDisk (disk a)) frames (frames_by entry_size (items a)) → GivesAll gives a bodies b
      → length bodies ≡ length (frames_by entry_size (items a)) → bodies ≡ map spell_all frames
  all_given frames [] a b honest match given count =
      sym (ap (map spell_all)
      (no_frames (LiesOnDisk (disk a)) frames (frames_by entry_size (items a)) match (sym count)))
  all_given frames (body ∷ bodies) a b honest match given count =
      next_given frames body bodies a given.0 b honest match given.1 count
      (λ rest then_honest then_match then_count.
      all_given rest bodies given.0 b then_honest then_match given.2 then_count)
