-- What an open cartridge keeps while changes are stored.
use Rattle.std.proofs.Common.{◌≡◌, inl, inr, ℕ, ◌≤◌, ◌+◌, List, [], ◌∷◌, ◌++◌, length, Bool, true, false, sym, ◌∙◌, ap, subst, arith, length-append}
use Rattle.std.specs.Prelude.{slice_index_or, slice_range}
use Rattle.std.specs.List.{All}
use Rattle.std.proofs.Math.Seq.{get_or-append_seam}
use Rattle.std.proofs.lemmas.List.{append-nil, get_or_append_left, length-map}
use Rattle.volume_core.specs.declared.changes.Change.{Change}
use Rattle.volume_core.specs.Volume.{Part, AllApply, after}
use Rattle.tape_disk.specs.Disk.{DiskState, Each, IsDisk}
use Rattle.tape_disk.specs.Moments.{LeavesOnly, holds_now}
use Rattle.gate_journal.specs.Side.{Front, Heading, StandsFor}
use Rattle.gate_journal.specs.Crash.{WithOrWithout}
use Rattle.cartridge_sides.specs.declared.which.Which.{Which}
use Rattle.change_records.specs.Records.{IsRecord, spell_all}
use Rattle.object_index.specs.Places.{PlacedPart}
use Rattle.object_index.specs.Shapes.{IsIndexOf}
use Rattle.object_index.specs.Indexes.{Indexes, indexes_by, indexes_shape}
use Rattle.cartridge.specs.Contents.{Contents, IsContents, bodies_of, volume_made, with_frames}
use Rattle.cartridge.specs.Notes.{Notes, noted_as, noted_contents, with_frame, with_torn}
use Rattle.cartridge.specs.Lying.{LiesIn, LiesOnSide}
use Rattle.cartridge.specs.Inner.Open.{IsOpen, SideGives, SideShows, StoresContents}
use Rattle.cartridge.specs.Inner.Growing.{IsGrown}
use Rattle.cartridge.specs.Extending.{bodies_more, contents_more, volume_more}
use Rattle.cartridge.proofs.ContentsLemmas.{gives_more, is_bodies_more, moments}
use Rattle.cartridge.proofs.GrowingLemmas.{grown_lies, same_parts}
use Rattle.cartridge.proofs.RecordLemmas.{all_applying}

-- a body more changes nothing for a block of an earlier one
pub lies_in_more : (bodies : List (List ℕ)) (extents : List (ℕ × ℕ)) (body : List ℕ) (extent : ℕ × ℕ)
    → length extents ≡ length bodies → (block : List ℕ) (place : ℕ) → LiesIn bodies extents block place
    → LiesIn (bodies ++ body ∷ []) (extents ++ extent ∷ []) block place
lies_in_more bodies extents body extent same block place lies =
    let frame = lies.0 in
    let extent_is : slice_index_or (extents ++ extent ∷ []) frame (0, 0) ≡ slice_index_or extents frame (0, 0) =
    get_or_append_left extents (extent ∷ []) (0, 0) frame lies.2 in
    let body_is : slice_index_or (bodies ++ body ∷ []) frame [] ≡ slice_index_or bodies frame [] =
    get_or_append_left bodies (body ∷ []) [] frame lies.6 in (
      frame,
      lies.1,
      omega (arith, lies.2, length-append extents (extent ∷ [])),
      lies.3 ∙ ap (λ (e : ℕ × ℕ). e.0 + lies.1) (sym extent_is),
      subst (λ (e : ℕ × ℕ). lies.1 + length block ≤ e.1) (sym extent_is) lies.4,
      lies.5 ∙ ap (λ (l : List ℕ). slice_range l lies.1 (lies.1 + length block)) (sym body_is),
      omega (arith, lies.6, length-append bodies (body ∷ [])),
    )

module _ (heading : Heading) (extents : List (ℕ × ℕ)) (failed : Bool) (index : List PlacedPart) (notes : Notes)
    (is : IsOpen heading extents failed index notes) where
  pub open_shape : IsIndexOf index (volume_made (noted_contents notes))
  open_shape = indexes_shape (LiesOnSide notes extents) (volume_made (noted_contents notes)) index is.lies

  pub open_parts : length index ≡ length (volume_made (noted_contents notes))
  open_parts = same_parts (LiesOnSide notes extents) (volume_made (noted_contents notes)) index is.lies

  -- with more reserved
  pub open_grown : (heading' : Heading) (extents' : List (ℕ × ℕ)) (failed' : Bool) (index' : List PlacedPart)
      → heading' ≡ heading → extents' ≡ extents → failed' ≡ failed → IsGrown index index'
      → IsOpen heading' extents' failed' index' notes
  open_grown heading' extents' failed' index' heading_is extents_are failed_is grown = record {
    heading_is = heading_is ∙ is.heading_is;
    contents = is.contents;
    at_rest = λ fine. is.at_rest (sym failed_is ∙ fine);
    counted = ap length extents_are ∙ is.counted;
    lies =
        subst (λ (e : List (ℕ × ℕ)). Indexes (LiesOnSide notes e) (volume_made (noted_contents notes)) index')
        (sym extents_are)
        (grown_lies (LiesOnSide notes extents) (volume_made (noted_contents notes)) index index' grown is.lies);
  }

  -- after a fault of the disk while these changes were stored
  pub open_broken : (changes : List Change) (heading' : Heading) (extents' : List (ℕ × ℕ)) (failed' : Bool)
      (index' : List PlacedPart) → heading' ≡ heading → extents' ≡ extents → failed' ≡ true → IsGrown index index'
      → IsOpen heading' extents' failed' index' (with_torn notes changes)
  open_broken changes heading' extents' failed' index' heading_is extents_are failed_is grown = record {
    heading_is = heading_is ∙ is.heading_is;
    contents = is.contents;
    at_rest = λ fine. absurd (cc);
    counted = ap length extents_are ∙ is.counted;
    lies =
        subst (λ (e : List (ℕ × ℕ)). Indexes (LiesOnSide notes e) (volume_made (noted_contents notes)) index')
        (sym extents_are)
        (grown_lies (LiesOnSide notes extents) (volume_made (noted_contents notes)) index index' grown is.lies);
  }

  module _ (changes : List Change) (apply : AllApply (volume_made (noted_contents notes)) changes) where
    -- there are few partitions, so each change has a spelling
    pub open_records : length index ≤ 4 → All IsRecord changes
    open_records few =
        all_applying (volume_made (noted_contents notes)) changes (omega (arith, few, open_parts)) apply

    pub open_contents : length index ≤ 4 → IsContents (noted_contents (with_frame notes changes))
    open_contents few = contents_more (noted_contents notes) changes is.contents (open_records few) apply

    module _ (extents' : List (ℕ × ℕ)) (extent : ℕ × ℕ) (extents_are : extents' ≡ extents ++ extent ∷ []) where
      -- the index beside a side with the new frame, before its changes are entered
      pub before_placing : (index' : List PlacedPart) → IsGrown index index'
          → Indexes (LiesOnSide (with_frame notes changes) extents') (volume_made (noted_contents notes)) index'
      before_placing index' grown =
          let bodies_are : bodies_of (with_frame notes changes).frames ≡ bodies_of notes.frames ++ spell_all changes
          ∷ [] =
          bodies_more (noted_contents notes) changes in
          let volume = volume_made (noted_contents notes) in
          subst (λ (b : List (List ℕ)). Indexes (LiesIn b extents') volume index') (sym bodies_are)
          (subst
          (λ (e : List (ℕ × ℕ)). Indexes (LiesIn (bodies_of notes.frames ++ spell_all changes ∷ []) e) volume index')
          (sym extents_are)
          (indexes_by (LiesOnSide notes extents)
          (LiesIn (bodies_of notes.frames ++ spell_all changes ∷ []) (extents ++ extent ∷ []))
          volume index'
          (lies_in_more (bodies_of notes.frames) extents (spell_all changes) extent
          (is.counted ∙ sym (length-map notes.frames spell_all)))
          (grown_lies (LiesOnSide notes extents) volume index index' grown is.lies)))

      pub one_more_extent : length extents' ≡ length notes.frames + 1
      one_more_extent =
          omega (arith, ap length extents_are, length-append extents (extent ∷ []), is.counted)

      pub last_extent : slice_index_or extents' (length notes.frames) (0, 0) ≡ extent
      last_extent =
          ap (λ (l : List (ℕ × ℕ)). slice_index_or l (length notes.frames) (0, 0)) extents_are
          ∙ ap (λ (n : ℕ). slice_index_or (extents ++ extent ∷ []) n (0, 0)) (sym is.counted)
          ∙ get_or-append_seam extents extent [] (0, 0)

      -- with the changes entered
      pub open_stored : (heading' : Heading) (failed' : Bool) (index' : List PlacedPart) → heading' ≡ heading
          → failed ≡ false → length index ≤ 4
          → Indexes (LiesOnSide (with_frame notes changes) extents')
          (after (volume_made (noted_contents notes)) changes) index'
          → IsOpen heading' extents' failed' index' (with_frame notes changes)
      open_stored heading' failed' index' heading_is fine few lies = record {
        heading_is = heading_is ∙ is.heading_is;
        contents = open_contents few;
        at_rest = λ fine'. is.at_rest fine;
        counted =
            omega (arith, one_more_extent, length-append notes.frames (changes ∷ []));
        lies =
            subst (λ (v : List Part). Indexes (LiesOnSide (with_frame notes changes) extents') v index')
            (sym (volume_more (noted_contents notes) changes)) lies;
      }

    -- what each image shows
    module _ (few : length index ≤ 4) (which : Which) (front : Front)
        (own : IsContents (noted_as which front.head.copied notes)) where
      -- with the changes they are contents too
      pub own_more : IsContents (noted_as which front.head.copied (with_frame notes changes))
      own_more = contents_more (noted_as which front.head.copied notes) changes own (open_records few) apply

      module _ (bodies : List (List ℕ)) (body : List ℕ) (body_is : body ≡ spell_all changes) (disk spare : DiskState)
          (stores : StoresContents disk spare which front bodies notes) where
        abbrev noted_so : Contents
        noted_so = noted_as which front.head.copied notes

        pub store_moments : (old new : DiskState) → LeavesOnly old new (WithOrWithout front bodies body)
            → LeavesOnly old new (SideShows front noted_so (changes ∷ []))
        store_moments old new run =
            moments noted_so changes own own_more front bodies stores.bodies_are body body_is old new run

        pub store_sure : (new : DiskState) → Each new (StandsFor front (bodies ++ body ∷ []))
            → Each new (SideGives front (with_frames noted_so (changes ∷ [])))
        store_sure new sure image left =
            gives_more noted_so changes own own_more front bodies stores.bodies_are body body_is image
            (sure image left)

        pub stores_stored : (new : DiskState) → Each new (StandsFor front (bodies ++ body ∷ []))
            → StoresContents new spare which front (bodies ++ body ∷ []) (with_frame notes changes)
        stores_stored new sure = record {
          bodies_are = is_bodies_more noted_so changes own own_more front bodies stores.bodies_are body body_is;
          shows = λ image left. inl (store_sure new sure image left);
          beside = stores.beside;
        }

        pub stores_broken : (new : DiskState) → IsDisk new → LeavesOnly disk new (WithOrWithout front bodies body)
            → StoresContents new spare which front bodies (with_torn notes changes)
        stores_broken new is_disk run = record {
          bodies_are = stores.bodies_are;
          shows =
              holds_now disk new (SideShows front noted_so (changes ∷ [])) is_disk (store_moments disk new run);
          beside = stores.beside;
        }

-- nothing was written, or nothing was called
pub stores_unwritten : (disk spare new : DiskState) (which : Which) (front : Front) (bodies bodies' : List (List ℕ))
    (notes : Notes) → StoresContents disk spare which front bodies notes → bodies' ≡ bodies
    → ((image : List ℕ) → new.may_leave image → disk.may_leave image)
    → StoresContents new spare which front bodies' notes
stores_unwritten disk spare new which front bodies bodies' notes stores same images = record {
  bodies_are = same ∙ stores.bodies_are;
  shows = λ image left. stores.shows image (images image left);
  beside = stores.beside;
}

-- with no frame in flight an image gives the contents
pub sure_at_rest : (front : Front) (contents : Contents) (torn : List (List Change)) (image : List ℕ) → torn ≡ []
    → SideShows front contents torn image → SideGives front contents image
sure_at_rest front contents torn image none (inl gives) = gives
sure_at_rest front contents torn image none (inr gives) =
    subst (λ (l : List (List Change)). SideGives front (record contents { frames = l }) image)
    (ap (λ (l : List (List Change)). contents.frames ++ l) none ∙ append-nil contents.frames) gives
