use Rattle.std.proofs.Common.{◌≡◌, ◌-◌, ℕ, List, [], ◌∷◌, ◌++◌, length, take, None, Some, Err, ap, sym, subst, ◌∙◌, arith, length-append}
use Rattle.std.specs.Prelude.{slice_index_or}
use Rattle.std.proofs.lemmas.List.{get_or_default, length-map}
use Rattle.volume_core.specs.Volume.{Part, after}
use Rattle.change_records.specs.declared.records.Record.{Record}
use Rattle.change_records.specs.Inner.Spelled.{length-spell}
use Rattle.object_index.specs.Indexes.{Indexes, LiesAt, indexes_after, indexes_shape}
use Rattle.change_records.specs.Records.{record_part}
use Rattle.object_index.specs.Places.{PlacedPart, placed_after, reserved_of, runs_of}
use Rattle.change_records.specs.Records.{IsRecord, record_of, size_of, spell_change, spell_all}
use Rattle.cartridge.specs.Answers.{entries_of}
use Rattle.cartridge.specs.Contents.{bodies_of, volume_made}
use Rattle.cartridge.specs.Lying.{HasBlock, LiesIn, LiesOnSide}
use Rattle.cartridge.specs.Notes.{noted_contents, with_frame}
use Rattle.cartridge.specs.Extending.{bodies_more}
use Rattle.cartridge.proofs.PlacingLemmas.{after_next, entries_are, entries_left, lies_placed, next_applies, takes_next}
use Rattle.cartridge.proofs.RecordLemmas.{part_fits, spelled_next}
use Rattle.cartridge.proofs.WalkingLemmas.{has_block_of, refused_alike}
use Rattle.cartridge.proofs.placing.place_frame.Goals as goal

pub place_of-requires : goal.place_of-requires
place_of-requires g c =
    let changes = c.args.changes.now in
    let notes = c.args.noted.now.notes in
    let extents = c.args.journal.now.extents in
    let inv = c.loop-change.invariant in
    let here = c.loop-change.change-index in
    let change = c.change-item.result in
    let item = c.of-item.result in
    let inside = c.loop-change-test.true in
    let is = c.change-item.is in
    let item_is : item ≡ record_of change = c.of-item.ensures in
    let good : IsRecord change = subst IsRecord (sym is) (c.requires.records here change inside) in
    let frame_is : c.frames-count.result - 1 ≡ length notes.frames =
    omega (arith, c.frames-count.ensures.extents, c.requires.counted) in
    let place_is : c.body_at-place.result ≡ slice_index_or extents (length notes.frames) (0, 0) =
    c.body_at-place.ensures.value
    ∙ get_or_default extents (c.frames-count.result - 1) c.body_at-place.result (0, 0)
    (omega (arith, c.frames-count.ensures.extents, c.requires.counted))
    ∙ ap (λ (n : ℕ). slice_index_or extents n (0, 0)) frame_is in
    let volume = after (volume_made (noted_contents notes)) (take here changes) in
    record {
      sized = subst HasBlock (sym item_is) (has_block_of change good);
      fits = omega (
        arith,
        c.loop-change.invariant.at_is,
        ap (λ (e : ℕ × ℕ). e.0) place_is,
        c.requires.fits,
        part_fits changes here change inside is,
        length-spell change,
        ap size_of item_is,
      );
    }

pub unreachable-requires : goal.unreachable-requires
unreachable-requires g c =
    let changes = c.args.changes.now in
    let notes = c.args.noted.now.notes in
    let extents = c.args.journal.now.extents in
    let inv = c.loop-change.invariant in
    let here = c.loop-change.change-index in
    let change = c.change-item.result in
    let item = c.of-item.result in
    let inside = c.loop-change-test.true in
    let is = c.change-item.is in
    let item_is : item ≡ record_of change = c.of-item.ensures in
    let good : IsRecord change = subst IsRecord (sym is) (c.requires.records here change inside) in
    let frame_is : c.frames-count.result - 1 ≡ length notes.frames =
    omega (arith, c.frames-count.ensures.extents, c.requires.counted) in
    let place_is : c.body_at-place.result ≡ slice_index_or extents (length notes.frames) (0, 0) =
    c.body_at-place.ensures.value
    ∙ get_or_default extents (c.frames-count.result - 1) c.body_at-place.result (0, 0)
    (omega (arith, c.frames-count.ensures.extents, c.requires.counted))
    ∙ ap (λ (n : ℕ). slice_index_or extents n (0, 0)) frame_is in
    let volume = after (volume_made (noted_contents notes)) (take here changes) in
    let refused = (rw c.in-Err-Refused.field-0-is at c.in-Err-Refused.ensures.answer).0 in
    let alike =
    refused_alike c.loop-change.index volume change item
    (indexes_shape (LiesOnSide (with_frame notes changes) extents) volume c.loop-change.index inv.lies) (sym item_is) in
    let none = next_applies (volume_made (noted_contents notes)) changes here change c.requires.apply inside is in
    let never : Some c.in-Err-Refused.field-0-0 ≡ None = sym refused ∙ alike ∙ none in
    absurd (cc)

pub unreachable-requires-in-Err-NoMemory : goal.unreachable-requires-in-Err-NoMemory
unreachable-requires-in-Err-NoMemory g c =
    let changes = c.args.changes.now in
    let notes = c.args.noted.now.notes in
    let extents = c.args.journal.now.extents in
    let inv = c.loop-change.invariant in
    let here = c.loop-change.change-index in
    let change = c.change-item.result in
    let item = c.of-item.result in
    let inside = c.loop-change-test.true in
    let is = c.change-item.is in
    let item_is : item ≡ record_of change = c.of-item.ensures in
    let good : IsRecord change = subst IsRecord (sym is) (c.requires.records here change inside) in
    let frame_is : c.frames-count.result - 1 ≡ length notes.frames =
    omega (arith, c.frames-count.ensures.extents, c.requires.counted) in
    let place_is : c.body_at-place.result ≡ slice_index_or extents (length notes.frames) (0, 0) =
    c.body_at-place.ensures.value
    ∙ get_or_default extents (c.frames-count.result - 1) c.body_at-place.result (0, 0)
    (omega (arith, c.frames-count.ensures.extents, c.requires.counted))
    ∙ ap (λ (n : ℕ). slice_index_or extents n (0, 0)) frame_is in
    let volume = after (volume_made (noted_contents notes)) (take here changes) in
    let p = record_part item in
    omega (
      arith,
      c.in-Err-NoMemory.ensures.memory (ap Err c.in-Err-NoMemory.field-0-is),
      c.requires.room p,
      inv.reserved p,
      entries_left p changes here change inside is,
      entries_are change,
      ap (λ (r : Record). entries_of (record_part r) change) item_is,
      ap runs_of item_is,
    )

pub overflow_add-at : goal.overflow_add-at
overflow_add-at g c =
    let changes = c.args.changes.now in
    let notes = c.args.noted.now.notes in
    let extents = c.args.journal.now.extents in
    let inv = c.loop-change.invariant in
    let here = c.loop-change.change-index in
    let change = c.change-item.result in
    let item = c.of-item.result in
    let inside = c.loop-change-test.true in
    let is = c.change-item.is in
    let item_is : item ≡ record_of change = c.of-item.ensures in
    let good : IsRecord change = subst IsRecord (sym is) (c.requires.records here change inside) in
    let frame_is : c.frames-count.result - 1 ≡ length notes.frames =
    omega (arith, c.frames-count.ensures.extents, c.requires.counted) in
    let place_is : c.body_at-place.result ≡ slice_index_or extents (length notes.frames) (0, 0) =
    c.body_at-place.ensures.value
    ∙ get_or_default extents (c.frames-count.result - 1) c.body_at-place.result (0, 0)
    (omega (arith, c.frames-count.ensures.extents, c.requires.counted))
    ∙ ap (λ (n : ℕ). slice_index_or extents n (0, 0)) frame_is in
    let volume = after (volume_made (noted_contents notes)) (take here changes) in
    omega (
      arith,
      c.size.ensures,
      c.loop-change.invariant.at_is,
      ap (λ (e : ℕ × ℕ). e.0) place_is,
      c.requires.fits,
      part_fits changes here change inside is,
      length-spell change,
      ap size_of item_is,
    )

pub loop-change-preserved : goal.loop-change-preserved
loop-change-preserved g c =
    let changes = c.args.changes.now in
    let notes = c.args.noted.now.notes in
    let extents = c.args.journal.now.extents in
    let inv = c.loop-change.invariant in
    let here = c.loop-change.change-index in
    let change = c.change-item.result in
    let item = c.of-item.result in
    let inside = c.loop-change-test.true in
    let is = c.change-item.is in
    let item_is : item ≡ record_of change = c.of-item.ensures in
    let good : IsRecord change = subst IsRecord (sym is) (c.requires.records here change inside) in
    let frame_is : c.frames-count.result - 1 ≡ length notes.frames =
    omega (arith, c.frames-count.ensures.extents, c.requires.counted) in
    let place_is : c.body_at-place.result ≡ slice_index_or extents (length notes.frames) (0, 0) =
    c.body_at-place.ensures.value
    ∙ get_or_default extents (c.frames-count.result - 1) c.body_at-place.result (0, 0)
    (omega (arith, c.frames-count.ensures.extents, c.requires.counted))
    ∙ ap (λ (n : ℕ). slice_index_or extents n (0, 0)) frame_is in
    let volume = after (volume_made (noted_contents notes)) (take here changes) in
    let place = c.place_of.result in
    let left = reserved_of c.apply.new.self (record_part item) in
    let bodies_are : bodies_of (with_frame notes changes).frames ≡ bodies_of notes.frames ++ spell_all changes ∷ [] =
    bodies_more (noted_contents notes) changes in
    let lies_there : LiesAt (LiesOnSide (with_frame notes changes) extents) change place =
    subst (λ (b : List (List ℕ)). LiesAt (LiesIn b extents) change place) (sym bodies_are)
    (lies_placed (bodies_of notes.frames) changes extents (length notes.frames) here change item c.loop-change.at place
    (sym (length-map notes.frames spell_all)) (omega (arith, c.requires.counted)) (sym c.requires.sized) inside is good
    (sym item_is) (omega (arith, inv.at_is, ap (λ (e : ℕ × ℕ). e.0) place_is)) c.place_of.ensures.place) in
    let placed_is : c.apply.new.self ≡ placed_after c.loop-change.index (record_of change) place left =
    c.in-Ok.ensures.answer.1 ∙ ap (λ (r : Record). placed_after c.loop-change.index r place left) item_is in
    let next = after_next (volume_made (noted_contents notes)) changes here change inside is in
    record {
      at_is =
          omega (
            arith,
            inv.at_is,
            c.size.ensures,
            ap size_of item_is,
            length-spell change,
            ap (λ (l : List ℕ). length l) (spelled_next changes here change inside is),
            length-append (spell_all (take here changes)) (spell_change change),
          );
      lies =
          subst
          (λ (x : List Part × List PlacedPart). Indexes (LiesOnSide (with_frame notes changes) extents) x.0 x.1)
          (λ k. (sym next k, sym placed_is k))
          (indexes_after (LiesOnSide (with_frame notes changes) extents) volume c.loop-change.index change place left
          lies_there inv.lies);
      reserved =
          takes_next c.args.index.now c.loop-change.index c.apply.new.self changes here change item place left inside is
          (sym item_is) inv.reserved c.in-Ok.ensures.answer.1 c.in-Ok.ensures.reserved;
    }
