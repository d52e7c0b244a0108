-- Records of a body, one after the other, on a volume and its index.
use Rattle.std.proofs.Common.{◌≡◌, ℕ, ◌<◌, ◌≤◌, ◌+◌, List, [], ◌∷◌, ◌++◌, length, take, drop, None, Some, true, false, refl, sym, ◌∙◌, ap, subst, arith, append_assoc, length-append}
use Rattle.std.specs.Prelude.{slice_index_or, slice_range}
use Rattle.std.specs.List.{All}
use Rattle.std.proofs.Math.Seq.{get_or-append_seam}
use Rattle.std.proofs.lemmas.Grind.{flat_map-append}
use Rattle.std.proofs.lemmas.List.{append-nil, drop-drop, drop_all, length-drop, length-take-le}
use Rattle.std.proofs.lemmas.List.Elements.{All-append, All-cons, All-head, All-nil, All-tail}
use Rattle.volume_core.specs.declared.changes.Change.{Change}
use Rattle.volume_core.specs.declared.changes.Change.TheVariants.{Put, Marks, Erase}
use Rattle.volume_core.specs.declared.changes.Refusal.{Refusal}
use Rattle.volume_core.specs.Volume.{Part, AllApply, after, changed, refusal_of}
use Rattle.volume_core.specs.Plain.{moves_on_by_changes}
use Rattle.volume_core.specs.Stores.{after_append}
use Rattle.change_records.specs.declared.records.Record.{Record}
use Rattle.change_records.specs.declared.records.Record.TheVariants as Records
use Rattle.change_records.specs.Records.{BeginsWithRecord, IsAtFront, IsRecord, change_in, record_of, size_of, spell_change, spell_all}
use Rattle.change_records.specs.Records.{outlined}
use Rattle.object_index.specs.Places.{PlacedPart, outline, placed_after}
use Rattle.object_index.specs.Shapes.{IsIndexOf}
use Rattle.object_index.specs.Facts.{refusal_by_shape}
use Rattle.object_index.specs.Indexes.{Indexes, LiesAt, indexes_after, indexes_shape}
use Rattle.change_records.specs.Inner.Decided.{never_both}
use Rattle.change_records.specs.Inner.Spelled.{one_front}
use Rattle.cartridge.specs.Lying.{HasBlock, IsPlaceOf, LiesIn}
use Rattle.cartridge.specs.Inner.Reading.{WalkedTo, WalksTo}

-- a change's record is refused by the index as the change is by the volume
pub refused_alike : (index : List PlacedPart) (volume : List Part) (change : Change) (item : Record)
    → IsIndexOf index volume → record_of change ≡ item
    → refusal_of (outline index) (outlined item) ≡ refusal_of volume change
refused_alike index volume change item shape is =
    (λ i. refusal_of (shape i) (outlined (sym is i))) ∙ refusal_by_shape volume change

-- one change more
pub spell_more : (done : List Change) (change : Change) → spell_all (done ++ change ∷ []) ≡ spell_all done ++
    spell_change change
spell_more done change =
    flat_map-append spell_change done (change ∷ []) ∙ ap (λ (l : List ℕ). spell_all done ++ l) (append-nil
    (spell_change change))

pub after_more : (volume : List Part) (done : List Change) (change : Change)
    → after volume (done ++ change ∷ []) ≡ changed (after volume done) change
after_more volume done change = after_append volume done (change ∷ [])

pub apply_more : (volume : List Part) (done : List Change) (change : Change) → AllApply volume done
    → refusal_of (after volume done) change ≡ None → AllApply volume (done ++ change ∷ [])
apply_more volume done change apply none =
    (moves_on_by_changes volume (after volume done) (changed (after volume done) change) done (change ∷ [])
    (apply, refl) ((none, tt), refl)).0

-- a change that applies behind others is not refused by what they made
applies_there : (volume : List Part) (done : List Change) (change : Change) (more : List Change)
    → AllApply volume (done ++ change ∷ more) → refusal_of (after volume done) change ≡ None
applies_there volume [] change more apply = apply.0
applies_there volume (x ∷ xs) change more apply = applies_there (changed volume x) xs change more apply.1

-- what spells the same bytes as some changes, another and more begins with these
begins_so : (done : List Change) (change : Change) (rest : List ℕ) (changes : List Change) → All IsRecord done
    → IsRecord change → All IsRecord changes → 1 ≤ length (spell_change change)
    → spell_all changes ≡ spell_all done ++ (spell_change change ++ rest)
    → (more : List Change) × (changes ≡ done ++ change ∷ more)
begins_so [] change rest [] good is all some e =
    absurd (omega (arith, ap length e, length-append (spell_change change) rest, some))
begins_so [] change rest (c ∷ cs) good is all some e =
    let same = one_front c change (spell_all cs) rest (All-head IsRecord c cs all) is e in
    (cs, ap (λ (x : Change). x ∷ cs) same.0)
begins_so (d ∷ ds) change rest [] good is all some e =
    absurd (omega (
      arith,
      ap length e,
      length-append (spell_change d ++ spell_all ds) (spell_change change ++ rest),
      length-append (spell_change change) rest,
      some,
    ))
begins_so (d ∷ ds) change rest (c ∷ cs) good is all some e =
    let same = one_front c d (spell_all cs) (spell_all ds ++ (spell_change change ++ rest)) (All-head IsRecord c cs all)
    (All-head IsRecord d ds good) (e ∙ append_assoc (spell_change d) (spell_all ds) (spell_change change ++ rest)) in
    let others = begins_so ds change rest cs (All-tail IsRecord d ds good) is (All-tail IsRecord c cs all) some
    same.1 in
    (others.0, λ i. same.0 i ∷ others.1 i)

module _ (body : List ℕ) (volume : List Part) (P : List ℕ → ℕ → Type 0) where
  -- nothing was read
  pub walk_none : (index : List PlacedPart) → Indexes P volume index → WalkedTo 0 body volume P index
  walk_none index lies = ([], All-nil IsRecord, refl, refl, tt, lies)

  -- all was read
  pub walk_end : (from : ℕ) (index : List PlacedPart) → WalkedTo from body volume P index → length body ≤ from
      → WalksTo true body volume P index
  walk_end from index walked end = (
    walked.0,
    (
      walked.1,
      walked.2 ∙ ap (λ (l : List ℕ). spell_all walked.0 ++ l) (drop_all from body end) ∙ append-nil
          (spell_all walked.0),
    ),
    walked.4,
    walked.5,
  )

  -- what follows begins with no record
  pub walk_bad : (from : ℕ) (index : List PlacedPart) → WalkedTo from body volume P index → from < length body
      → (BeginsWithRecord (drop from body) → ⊥) → WalksTo false body volume P index
  walk_bad from index walked some bad = λ changes records is apply.
      never_both body changes from (records, is) (record {
        changes = walked.0;
        rest = drop from body;
        spelled = walked.1;
        begins = walked.2;
        at_is = walked.3;
        some = λ none. absurd (omega (arith, some, ap length none, length-drop from body));
        bad = bad;
      })

  module _ (from : ℕ) (index : List PlacedPart) (walked : WalkedTo from body volume P index) (item : Record)
      (front : IsAtFront item (drop from body)) where
    abbrev change : Change
    change = change_in item (drop from body)

    refused_so : refusal_of (outline index) (outlined item) ≡ refusal_of (after volume walked.0) change
    refused_so =
        refused_alike index (after volume walked.0) change item
        (indexes_shape P (after volume walked.0) index walked.5) front.of_it

    whole : body ≡ spell_all walked.0 ++ (spell_change change ++ drop (size_of item) (drop from body))
    whole = walked.2 ∙ ap (λ (l : List ℕ). spell_all walked.0 ++ l) front.spelled

    -- a record that is refused
    pub walk_refused : (cause : Refusal) → 1 ≤ size_of item → refusal_of (outline index) (outlined item) ≡ Some cause
        → WalksTo false body volume P index
    walk_refused cause some refused = λ changes records is apply.
        let parted = begins_so walked.0 change (drop (size_of item) (drop from body)) changes walked.1 front.valid
        records
        (omega (arith, some, front.sized)) (sym is ∙ whole) in
        let none = applies_there volume walked.0 change parted.0 (subst (AllApply volume) parted.1 apply) in
        absurd (let a = sym refused_so ∙ refused in cc)

    -- one record more
    pub walk_on : (index' : List PlacedPart) (place reserved : ℕ)
        → refusal_of (outline index) (outlined item) ≡ None → index' ≡ placed_after index item place reserved
        → LiesAt P change place → WalkedTo (from + size_of item) body volume P index'
    walk_on index' place reserved none is here = (
      walked.0 ++ change ∷ [],
      All-append IsRecord walked.0 (change ∷ []) walked.1 (All-cons IsRecord change [] front.valid (All-nil IsRecord)),
      whole
          ∙ sym (append_assoc (spell_all walked.0) (spell_change change) (drop (size_of item) (drop from body)))
          ∙ (λ i. sym (spell_more walked.0 change) i ++ rest i),
      omega (
        arith,
        walked.3,
        front.sized,
        ap length (spell_more walked.0 change),
        length-append (spell_all walked.0)
            (spell_change change),
      ),
      apply_more volume walked.0 change walked.4 (sym refused_so ∙ none),
      subst (λ (x : List Part × List PlacedPart). Indexes P x.0 x.1)
          (λ i. (sym (after_more volume walked.0 change) i, same i))
          (indexes_after P (after volume walked.0) index change place reserved here walked.5),
    )
      where
        rest : drop (size_of item) (drop from body) ≡ drop (from + size_of item) body
        rest = drop-drop (size_of item) from body

        same : placed_after index (record_of change) place reserved ≡ index'
        same = ap (λ (r : Record). placed_after index r place reserved) front.of_it ∙ sym is

-- the block of a record of the last body lies behind its head
pub lies_here : (bodies : List (List ℕ)) (body : List ℕ) (extents : List (ℕ × ℕ)) (frame from : ℕ) (item : Record)
    (place : ℕ) → frame ≡ length bodies → frame < length extents
    → length body ≡ (slice_index_or extents frame (0, 0)).1
    → IsAtFront item (drop from body) → IsPlaceOf item ((slice_index_or extents frame (0, 0)).0 + from) place
    → LiesAt (LiesIn (bodies ++ body ∷ []) extents) (change_in item (drop from body)) place
lies_here bodies body extents frame from (Records.Marks part at count) place is inside sized front place_is = tt
lies_here bodies body extents frame from (Records.Erase part at) place is inside sized front place_is = tt
lies_here bodies body extents frame from (Records.Put part at count) place is inside sized front place_is =
    let block = take count (drop 10 (drop from body)) in
    let long : length block ≡ count =
    length-take-le count (drop 10 (drop from body))
    (omega (arith, front.within, length-drop 10 (drop from body))) in
    let body_is : slice_index_or (bodies ++ body ∷ []) frame [] ≡ body =
    ap (λ (n : ℕ). slice_index_or (bodies ++ body ∷ []) n []) is ∙ get_or-append_seam bodies body [] [] in (
      frame,
      from + 10,
      inside,
      omega (arith, place_is),
      omega (arith, long, front.within, sized, length-drop from body),
      ap (take count) (drop-drop 10 from body)
          ∙ ap (λ (n : ℕ). take n (drop (from + 10) body)) (omega (arith, long))
          ∙ ap (λ (l : List ℕ). slice_range l (from + 10) (from + 10 + length block)) (sym body_is),
      omega (arith, is, length-append bodies (body ∷ [])),
    )

-- the body that comes next lies behind the others
pub lies_next : (bodies : List (List ℕ)) (body : List ℕ) (extents : List (ℕ × ℕ)) (place from : ℕ) (item : Record)
    (at : ℕ) → length extents ≡ length bodies → IsAtFront item (drop from body) → IsPlaceOf item (place + from) at
    → LiesAt (LiesIn (bodies ++ body ∷ []) (extents ++ (place, length body) ∷ [])) (change_in item (drop from body)) at
lies_next bodies body extents place from item at same front place_is =
    let more = extents ++ (place, length body) ∷ [] in
    let extent_is : slice_index_or more (length bodies) (0, 0) ≡ (place, length body) =
    ap (λ (n : ℕ). slice_index_or more n (0, 0)) (sym same)
    ∙ get_or-append_seam extents (place, length body) [] (0, 0) in
    lies_here bodies body more (length bodies) from item at refl
    (omega (arith, same, length-append extents ((place, length body) ∷ [])))
    (ap (λ (e : ℕ × ℕ). e.1) (sym extent_is)) front
    (subst (λ (e : ℕ × ℕ). IsPlaceOf item (e.0 + from) at) (sym extent_is) place_is)

-- a record at the front of bytes has a byte of its block, where it has one
pub has_block : (item : Record) (bytes : List ℕ) → IsAtFront item bytes → HasBlock item
has_block (Records.Put part at count) bytes front =
    omega (
      arith,
      front.valid.1,
      front.within,
      length-take-le count (drop 10 bytes) (omega (
        arith,
        front.within,
        length-drop 10 bytes,
      )),
    )
has_block (Records.Marks part at count) bytes front = tt
has_block (Records.Erase part at) bytes front = tt

pub some_bytes_of : (item : Record) → 1 ≤ size_of item
some_bytes_of (Records.Put part at count) = omega arith
some_bytes_of (Records.Marks part at count) = omega arith
some_bytes_of (Records.Erase part at) = omega arith

-- the record of a change that is spelled has a byte of its block, where it has one
pub has_block_of : (change : Change) → IsRecord change → HasBlock (record_of change)
has_block_of (Put part at block) is = is.1
has_block_of (Marks part at count) is = tt
has_block_of (Erase part at) is = tt
