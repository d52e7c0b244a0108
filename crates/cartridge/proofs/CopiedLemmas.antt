-- What a reclaimed cartridge holds.
use Rattle.std.proofs.Common.{◌≡◌, ◌<◌, ◌+◌, ◌^◌, ℕ, zero, suc, false, List, [], ◌∷◌, length, map, refl, sym, subst, ap, ◌∙◌, arith}
use Rattle.std.specs.Prelude.{None, Option, Some, slice_get, slice_set}
use Rattle.std.specs.List.{All}
use Rattle.std.proofs.lemmas.List.{length-map, length-replicate}
use Rattle.std.proofs.lemmas.List.Elements.{All-cons, All-head, All-nil, All-tail}
use Rattle.volume_core.specs.declared.changes.Change.{Change}
use Rattle.volume_core.specs.declared.objects.Object.{Object}
use Rattle.volume_core.specs.declared.objects.Object.TheVariants.{Block, Mark}
use Rattle.volume_core.specs.Volume.{AllApply, IsObject, IsPart, IsVolume, Part, after, changed, changed_in, empty_volume, part_after, part_of}
use Rattle.object_index.specs.Facts.{used_blanked}
use Rattle.change_records.specs.Records.{spell_all}
use Rattle.object_index.specs.Shapes.{blanked, shape_of, shape_of_part}
use Rattle.tape_disk.specs.Disk.{DiskState, IsDisk}
use Rattle.tape_disk.specs.TwoDisks.{AreHonest, EachOfTwo, Images, TwoDisks, seen_of_two}
use Rattle.gate_journal.specs.declared.header.SideKind.{SideKind}
use Rattle.gate_journal.specs.declared.heads.Copied.{Copied}
use Rattle.gate_journal.specs.Heads.{IsCopied, epoch_of}
use Rattle.gate_journal.specs.declared.header.Header.{Header}
use Rattle.gate_journal.specs.Side.{Front, heading_of}
use Rattle.gate_journal.specs.State.{OpenSide}
use Rattle.cartridge_sides.specs.declared.which.Which.{Which}
use Rattle.cartridge_sides.specs.declared.which.Which.TheVariants.{First, Second}
use Rattle.side_reclaim.specs.Ready.{GivesSurely}
use Rattle.object_index.specs.Indexes.{Indexes, indexes_by, indexes_shape}
use Rattle.object_index.specs.Places.{PlacedPart, outline}
use Rattle.volume_copy.specs.CopyFacts.{capacities_of, copy_makes}
use Rattle.volume_copy.specs.PackedFacts.{copy_frames_spelled, copy_in_frames}
use Rattle.volume_reclaim.specs.Reading.{LiesOnDisk}
use Rattle.volume_reclaim.specs.Reclaiming.{GivesCopy, MayReclaim, counting_disk}
use Rattle.cartridge.specs.Lying.{LiesIn, LiesOnSide}
use Rattle.cartridge.specs.Notes.{Notes, noted_as}
use Rattle.cartridge.specs.Inner.Open.{IsOpen, StoresContents}
use Rattle.cartridge.proofs.DisksLemmas.{honest_by}
use Rattle.cartridge.proofs.ShownLemmas.{sure_now}
use Rattle.cartridge.proofs.ReclaimLemmas.{frame_count, lies_there}
use Rattle.cartridge.specs.Contents.{Contents, GivesContents, IsContents, bodies_of, changes_in, volume_made}
use Rattle.cartridge.specs.Disks.{OnlyOfTwo, disks_by}
use Rattle.cartridge.specs.Reclaiming.{HasBodies, copy_frames, reclaimed_from}
use Rattle.cartridge.specs.State.{OpenCartridge}

objects_of_shape : (objects : List Object) → All IsObject (map blanked objects) → All IsObject objects
objects_of_shape [] each = All-nil IsObject
objects_of_shape (Mark ∷ objects) each =
    All-cons IsObject Mark objects tt (objects_of_shape objects (All-tail IsObject Mark (map blanked objects) each))
objects_of_shape (Block bytes ∷ objects) each =
    let one = All-head IsObject (blanked (Block bytes)) (map blanked objects) each in
    let same = length-replicate {A = ℕ} (length bytes) 0 in
    All-cons IsObject (Block bytes) objects (omega (arith, one.0, same), omega (arith, one.1, same))
    (objects_of_shape objects (All-tail IsObject (blanked (Block bytes)) (map blanked objects) each))

part_of_shape : (part : Part) → IsPart (shape_of_part part) → IsPart part
part_of_shape part is = record {
  capacity_fits = is.capacity_fits;
  few = omega (arith, is.few, length-map part.objects blanked);
  fits = omega (arith, is.fits, used_blanked part.objects);
  well_formed = objects_of_shape part.objects is.well_formed;
}

parts_of_shape : (volume : List Part) → All IsPart (shape_of volume) → All IsPart volume
parts_of_shape [] each = All-nil IsPart
parts_of_shape (part ∷ volume) each =
    All-cons IsPart part volume (part_of_shape part (All-head IsPart (shape_of_part part) (shape_of volume) each))
    (parts_of_shape volume (All-tail IsPart (shape_of_part part) (shape_of volume) each))

-- a volume whose shape keeps the limits keeps them
pub volume_of_shape : (volume : List Part) → IsVolume (shape_of volume) → IsVolume volume
volume_of_shape volume is = record {
  some = omega (arith, is.some, length-map volume shape_of_part);
  few = omega (arith, is.few, length-map volume shape_of_part);
  each = parts_of_shape volume is.each;
}

capacities_set : (volume : List Part) (number : ℕ) (part now : Part) → slice_get volume number ≡ Some part
    → now.capacity ≡ part.capacity → capacities_of (slice_set volume number now) ≡ capacities_of volume
capacities_set [] number part now is same = refl
capacities_set (p ∷ ps) zero part now is same =
    let here : p ≡ part = cc in
    let kept : now.capacity ≡ p.capacity = same ∙ ap (λ (q : Part). q.capacity) (sym here) in
    λ i. kept i ∷ capacities_of ps
capacities_set (p ∷ ps) (suc n) part now is same =
    ap (λ (l : List ℕ). p.capacity ∷ l) (capacities_set ps n part now is same)

capacities_changed : (volume : List Part) (change : Change)
    → capacities_of (changed volume change) ≡ capacities_of volume
capacities_changed volume change = by (slice_get volume (part_of change)) refl
  where
    by : (part : Option Part) → slice_get volume (part_of change) ≡ part
        → capacities_of (changed_in part volume change) ≡ capacities_of volume
    by None is = refl
    by (Some part) is = capacities_set volume (part_of change) part (part_after part change) is refl

capacities_after : (volume : List Part) (changes : List Change)
    → capacities_of (after volume changes) ≡ capacities_of volume
capacities_after volume [] = refl
capacities_after volume (change ∷ changes) =
    capacities_after (changed volume change) changes ∙ capacities_changed volume change

capacities_empty : (capacities : List ℕ) → capacities_of (empty_volume capacities) ≡ capacities
capacities_empty [] = refl
capacities_empty (capacity ∷ capacities) = ap (λ (l : List ℕ). capacity ∷ l) (capacities_empty capacities)

-- the volume that a cartridge holds has the capacities of its heading
capacities_made : (contents : Contents) → IsContents contents
    → capacities_of (volume_made contents) ≡ contents.head.heading.capacities
capacities_made contents is =
    capacities_after contents.base (changes_in contents)
    ∙ ap capacities_of is.base
    ∙ capacities_empty contents.head.heading.capacities

-- what is asked of an open cartridge that is reclaimed, and of the plan
pub record IsAsked {D : Type 0} (state : D → DiskState) (header : Header) (copied : Copied)
    (cartridge : OpenCartridge D) : Type 0 where
  pub fine : cartridge.failed ≡ false
  pub only : AreHonest state cartridge.disks → OnlyOfTwo state cartridge.disks cartridge.disks
  pub heading : heading_of header ≡ cartridge.contents.head.heading
  pub epoch : copied.epoch ≡ epoch_of cartridge.contents.head + 1
  pub base : copied.base ≡ length (copy_frames cartridge.contents)

-- it is so of what the cartridge was before it was taken apart
pub asked_before : {D : Type 0} (state : D → DiskState) (was given : OpenCartridge D) (header : Header)
    (copied : Copied) → was ≡ given → given.failed ≡ false
    → (AreHonest state given.disks → OnlyOfTwo state given.disks given.disks)
    → heading_of header ≡ given.contents.head.heading → copied.epoch ≡ epoch_of given.contents.head + 1
    → copied.base ≡ length (copy_frames given.contents) → IsAsked state header copied was
asked_before state was given header copied is fine only heading epoch base =
    subst (IsAsked state header copied) (sym is)
    (record { fine = fine; only = only; heading = heading; epoch = epoch; base = base })

-- what a reclaimed cartridge holds can be held
pub reclaimed_is : (contents : Contents) → IsContents contents → IsVolume (volume_made contents)
    → epoch_of contents.head + 1 < 2 ^ 64 → length (copy_frames contents) < 2 ^ 32 → IsContents
    (reclaimed_from contents)
reclaimed_is contents is volume epoch few =
    let bodies = bodies_of (copy_frames contents) in
    let count = length-map (copy_frames contents) spell_all in
    let made = copy_makes (volume_made contents) volume in
    let copied : Copied = record { epoch = epoch_of contents.head + 1; base = length bodies } in
    record {
      kind = is.kind;
      spelled =
          record {
            heading = is.spelled.heading;
            copied =
                subst (λ (kind : SideKind). IsCopied kind (Some copied)) (sym is.kind)
                (epoch, omega (arith, count, few));
          };
      base = refl;
      records = copy_frames_spelled (volume_made contents) volume;
      apply =
          subst (λ (x : List ℕ × List Change). AllApply (empty_volume x.0) x.1)
          (λ i. (capacities_made contents is i, sym (copy_in_frames (volume_made contents) volume) i)) made.0;
      copied = omega (arith, count);
    }

-- and it holds the same volume
pub reclaimed_volume : (contents : Contents) → IsContents contents → IsVolume (volume_made contents)
    → volume_made (reclaimed_from contents) ≡ volume_made contents
reclaimed_volume contents is volume =
    (λ i. after (empty_volume (sym (capacities_made contents is) i))
    (copy_in_frames (volume_made contents) volume i))
    ∙ (copy_makes (volume_made contents) volume).1

module _ {D : Type 0} (state : D → DiskState) (laws : (disk : D) → (state disk).honest → IsDisk (state disk))
    (disks : TwoDisks D) where
  -- disks of which each pair of images gives the contents, and of which one pair is left, give them surely
  pub surely : (contents : Contents) → AreHonest state disks → EachOfTwo state disks (GivesContents contents)
      → OnlyOfTwo state disks disks
      → GivesSurely state disks contents.which contents.head (bodies_of contents.frames)
  surely contents honest each only =
      let one = (laws disks.first honest.0).reads in
      let two = (laws disks.second honest.1).reads in
      record {
        stands = (each (seen_of_two state disks) (one, two)).1;
        first = λ image left. ap (λ (p : Images). p.0) (only (image, (state disks.second).seen) (left, two));
        second = λ image left. ap (λ (p : Images). p.1) (only ((state disks.first).seen, image) (one, left));
      }

counting_by : {D : Type 0} (which : Which) (this spare : D) → counting_disk which (disks_by which this spare) ≡ this
counting_by First this spare = refl
counting_by Second this spare = refl

-- the blocks of the side that counts lie on its disk
pub lies_on : {D : Type 0} (state : D → DiskState) (which : Which) (this spare : D) (front : Front)
    (bodies : List (List ℕ)) (extents : List (ℕ × ℕ)) (notes : Notes) (volume : List Part) (parts : List PlacedPart)
    → HasBodies (state this).seen front bodies extents → bodies ≡ bodies_of notes.frames
    → Indexes (LiesOnSide notes extents) volume parts
    → Indexes (LiesOnDisk (state (counting_disk which (disks_by which this spare)))) volume parts
lies_on state which this spare front bodies extents notes volume parts has same lies =
    subst (λ d. Indexes (LiesOnDisk (state d)) volume parts) (sym (counting_by which this spare))
    (indexes_by (LiesOnSide notes extents) (LiesOnDisk (state this)) volume parts
    (λ block place is honest. lies_there (state this).seen front bodies extents has block place
    (subst (λ (l : List (List ℕ)). LiesIn l extents block place) (sym same) is)) lies)

-- the pair gives what a reclaimed cartridge holds
pub copy_gives : (contents : Contents) → IsContents (reclaimed_from contents) → (images : Images)
    → GivesCopy contents.which contents.head (volume_made contents) images
    → GivesContents (reclaimed_from contents) images
copy_gives contents is images gives = (is, gives)

-- an open cartridge may be reclaimed, by a plan that is its own
module _ {D : Type 0} (state : D → DiskState) (laws : (disk : D) → (state disk).honest → IsDisk (state disk))
    (which : Which) (side : OpenSide D) (spare : D) (index : List PlacedPart) (notes : Notes) (header : Header)
    (copied : Copied) where
  abbrev held : Contents
  held = noted_as which side.front.head.copied notes

  abbrev both_disks : TwoDisks D
  both_disks = disks_by which side.disk spare

  pub may_reclaim : IsOpen side.front.head.heading side.extents side.failed index notes
      → (AreHonest state both_disks
      → StoresContents (state side.disk) (state spare) which side.front side.bodies notes)
      → ((state side.disk).honest → HasBodies (state side.disk).seen side.front side.bodies side.extents)
      → side.failed ≡ false → (AreHonest state both_disks → OnlyOfTwo state both_disks both_disks)
      → heading_of header ≡ held.head.heading → copied.epoch ≡ epoch_of held.head + 1
      → copied.base ≡ length (copy_frames held) → AreHonest state both_disks
      → MayReclaim state both_disks which header copied index held.head (bodies_of notes.frames) (volume_made held)
  may_reclaim is stores has fine only heading epoch base honest =
      let kept = stores honest in
      let both = honest_by state which side.disk spare honest in
      record {
        gives =
            surely state laws both_disks held honest (sure_now state which side spare index notes is kept fine)
            (only honest);
        heading = heading;
        epoch = epoch;
        base = base ∙ sym (frame_count (LiesOnSide notes side.extents) (volume_made held) index is.lies);
        lies =
            lies_on state which side.disk spare side.front side.bodies side.extents notes (volume_made held) index
            (has both.0) kept.bodies_are is.lies;
      }

  pub may_hold : IsOpen side.front.head.heading side.extents side.failed index notes → IsContents held
      → IsVolume (outline index) → copied.epoch < 2 ^ 64 → copied.base < 2 ^ 32
      → copied.epoch ≡ epoch_of held.head + 1 → copied.base ≡ length (copy_frames held)
      → IsContents (reclaimed_from held)
  may_hold is contents limits epoch_fits base_fits epoch base =
      reclaimed_is held contents
      (volume_of_shape (volume_made held)
      (subst IsVolume (indexes_shape (LiesOnSide notes side.extents) (volume_made held) index is.lies) limits))
      (omega (arith, epoch, epoch_fits)) (omega (arith, base, base_fits))
