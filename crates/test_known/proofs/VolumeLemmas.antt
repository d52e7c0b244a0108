-- A volume beside a cartridge.
use Rattle.std.proofs.Common.{◌≡◌, inl, inr, ℕ, ◌<◌, ◌+◌, List, [], ◌∷◌, ◌++◌, length, take, None, refl, sym, ◌∙◌, ap, arith, length-append}
use Rattle.std.specs.Prelude.{slice_index_or}
use Rattle.std.proofs.Math.Numerals.{add-one}
use Rattle.std.proofs.Math.Seq.{take-suc}
use Rattle.std.proofs.lemmas.Grind.{flat_map-append}
use Rattle.std.proofs.lemmas.List.{append-nil}
use Rattle.volume_core.specs.declared.changes.Change.{Change}
use Rattle.volume_core.specs.declared.changes.Change.TheVariants.{Put, Marks, Erase}
use Rattle.volume_core.specs.Volume.{Part, AllApply, after, changed, refusal_of}
use Rattle.volume_core.specs.Medium.{frame_size}
use Rattle.volume_core.specs.Plain.{moves_on_by_changes}
use Rattle.volume_core.specs.Stores.{after_append}
use Rattle.tape_disk.specs.TwoDisks.{Images}
use Rattle.change_records.specs.Records.{spell_all, spell_change, spell_head}
use Rattle.cartridge.specs.Contents.{Contents, GivesContents, ShowsContents, changes_in, volume_made, with_frames}

-- a cartridge that is opened holds the same volume as when it was closed
pub same_volume : (volume : List Part) (closed opened : Contents) (torn : List (List Change)) (images : Images)
    → torn ≡ [] → volume ≡ volume_made closed → ShowsContents closed torn images → GivesContents opened images
    → ((images : Images) (a b : Contents) → GivesContents a images → GivesContents b images → a ≡ b)
    → volume ≡ volume_made opened
same_volume volume closed opened torn images whole is (inl shown) found one =
    is ∙ ap volume_made (one images closed opened shown found)
same_volume volume closed opened torn images whole is (inr shown) found one =
    let none : with_frames closed torn ≡ closed =
    ap (with_frames closed) whole
    ∙ ap (λ (frames : List (List Change)). let contents : Contents = record closed { frames = frames } in contents)
    (append-nil closed.frames) in
    is ∙ ap volume_made (sym none ∙ one images (with_frames closed torn) opened shown found)

-- one more change
pub taken_next : (changes : List Change) (i : ℕ) (change : Change) → i < length changes
    → change ≡ slice_index_or changes i change → take (i + 1) changes ≡ take i changes ++ change ∷ []
taken_next changes i change inside is =
    ap (λ (n : ℕ). take n changes) (add-one i) ∙ take-suc changes i change inside
    ∙ ap (λ (c : Change). take i changes ++ c ∷ []) (sym is)

-- the changes so far apply, and lead to the volume
pub carried_next : (volume now new : List Part) (done : List Change) (change : Change) → now ≡ after volume done
    → AllApply volume done → refusal_of now change ≡ None → new ≡ changed now change
    → AllApply volume (done ++ change ∷ []) × (new ≡ after volume (done ++ change ∷ []))
carried_next volume now new done change is all none made =
    moves_on_by_changes volume now new done (change ∷ []) (all, is) ((none, tt), made)

-- a frame of one change has 5 bytes more than its record
pub frame_of_one : (change : Change) → frame_size change ≡ length (spell_change change) + 5
frame_of_one (Put part at block) = omega (arith, length-append (spell_head 1 part at (length block)) block)
frame_of_one (Marks part at count) = refl
frame_of_one (Erase part at) = refl

-- the bytes of one more change
pub spelled_next : (done : List Change) (change : Change)
    → length (spell_all (done ++ change ∷ [])) + 5 ≡ length (spell_all done) + frame_size change
spelled_next done change =
    omega (
      arith,
      frame_of_one change,
      ap (λ (l : List ℕ). length l) (flat_map-append spell_change done (change ∷ [])),
      length-append (spell_all done) (spell_all (change ∷ [])),
      ap (λ (l : List ℕ). length l) (append-nil (spell_change change)),
    )

-- the volume after one more frame
pub volume_more : (contents : Contents) (changes : List Change)
    → volume_made (with_frames contents (changes ∷ [])) ≡ after (volume_made contents) changes
volume_more contents changes =
    ap (after contents.base)
    (flat_map-append (λ (frame : List Change). frame) contents.frames (changes ∷ [])
    ∙ ap (λ (l : List Change). changes_in contents ++ l) (append-nil changes))
    ∙ after_append contents.base (changes_in contents) changes
