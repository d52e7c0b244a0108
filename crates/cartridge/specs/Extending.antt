-- Contents with one frame more, and what they are seen as.
use Rattle.std.proofs.Common.{◌≡◌, ◌≤◌, List, [], ◌∷◌, ◌++◌, length, take, drop, sym, ◌∙◌, ap, subst, refl, arith, length-append, take-append-drop}
use Rattle.std.specs.List.{All}
use Rattle.std.proofs.lemmas.Grind.{flat_map-append}
use Rattle.std.proofs.lemmas.List.{append-nil, map-append, take-append-le, drop-append-le}
use Rattle.std.proofs.lemmas.List.Elements.{All-append, All-cons, All-nil}
use Rattle.volume_core.specs.declared.changes.Change.{Change}
use Rattle.volume_core.specs.Volume.{AllApply, after}
use Rattle.volume_core.specs.Plain.{moves_on_by_changes}
use Rattle.volume_core.specs.Stores.{after_append}
use Rattle.change_records.specs.Records.{IsRecord, spell_all}
use Rattle.gate_journal.specs.Heads.{base_of}
use Rattle.cartridge.specs.Contents.{Contents, IsContents, base_frames, bodies_of, changes_in, changes_of, changes_since, start_of, volume_made, with_frames}

module _ (contents : Contents) (changes : List Change) where
  -- the changes of one frame more come last
  pub changes_more : changes_in (with_frames contents (changes ∷ [])) ≡ changes_in contents ++ changes
  changes_more =
      flat_map-append (λ (frame : List Change). frame) contents.frames (changes ∷ [])
      ∙ ap (λ (l : List Change). changes_in contents ++ l) (append-nil changes)

  -- the new volume: these changes, carried out on the old one
  pub volume_more : volume_made (with_frames contents (changes ∷ [])) ≡ after (volume_made contents) changes
  volume_more =
      ap (after contents.base) changes_more ∙ after_append contents.base (changes_in contents) changes

  -- they are spelled in one body more
  pub bodies_more :
      bodies_of (with_frames contents (changes ∷ [])).frames ≡ bodies_of contents.frames ++ spell_all changes ∷ []
  bodies_more = map-append spell_all contents.frames (changes ∷ [])

  -- contents with changes that have a spelling and apply are contents
  pub contents_more : IsContents contents → All IsRecord changes → AllApply (volume_made contents) changes
      → IsContents (with_frames contents (changes ∷ []))
  contents_more is records apply = record {
    kind = is.kind;
    spelled = is.spelled;
    base = is.base;
    records =
        All-append (All IsRecord) contents.frames (changes ∷ []) is.records
        (All-cons (All IsRecord) changes [] records (All-nil (All IsRecord)));
    apply =
        subst (AllApply contents.base) (sym changes_more)
        (moves_on_by_changes contents.base (volume_made contents) (after (volume_made contents) changes)
        (changes_in contents) changes (is.apply, refl) (apply, refl)).0;
    copied = omega (arith, is.copied, length-append contents.frames (changes ∷ []));
  }

-- the volume comes from the start by the changes since then
pub volume_since : (contents : Contents)
    → volume_made contents ≡ after (start_of contents).volume (changes_since contents)
volume_since contents =
    let n = base_of contents.head in
    ap (λ (frames : List (List Change)). after contents.base (changes_of frames))
    (sym (take-append-drop n contents.frames))
    ∙ ap (after contents.base)
    (flat_map-append (λ (frame : List Change). frame) (take n contents.frames) (drop n contents.frames))
    ∙ after_append contents.base (changes_of (base_frames contents)) (changes_since contents)

-- frames behind those of a copy
module _ (contents : Contents) (more : List (List Change)) (copied : base_of contents.head ≤ length contents.frames)
  where
    -- begin from the same
    pub start_with : start_of (with_frames contents more) ≡ start_of contents
    start_with =
        ap (λ (frames : List (List Change)). record (start_of contents) {
          volume = after contents.base (changes_of frames);
        }) (take-append-le (base_of contents.head) contents.frames more copied)

    -- and hold changes behind those since then
    pub since_with : changes_since (with_frames contents more) ≡ changes_since contents ++ changes_of more
    since_with =
        ap changes_of (drop-append-le (base_of contents.head) contents.frames more copied)
        ∙ flat_map-append (λ (frame : List Change). frame) (drop (base_of contents.head) contents.frames) more
