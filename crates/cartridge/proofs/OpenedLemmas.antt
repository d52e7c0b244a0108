-- What the opening of the side that counts comes to.
use Rattle.std.proofs.Common.{◌≡◌, inl, ℕ, ◌≤◌, List, ◌∷◌, Bool, false, length, refl, sym, ◌∙◌, ap, subst, arith}
use Rattle.tape_disk.specs.Disk.{DiskState, IsDisk, Keeps, Only}
use Rattle.tape_disk.specs.TwoDisks.{AreHonest, seen_of_two}
use Rattle.gate_journal.specs.declared.error.OpenError.{OpenError}
use Rattle.gate_journal.specs.declared.error.OpenError.TheVariants.{NotOurs, Damaged, BadRecord, Device, NoMemory}
use Rattle.gate_journal.specs.declared.header.SideKind.TheVariants as SideKinds
use Rattle.gate_journal.specs.Decoding.{IsNotDecoded}
use Rattle.gate_journal.specs.Heads.{Head, IsHead, base_of}
use Rattle.gate_journal.specs.Side.{Heading, StandsFor}
use Rattle.gate_journal.specs.State.{OpenSide}
use Rattle.cartridge_sides.specs.declared.which.Which.{Which}
use Rattle.cartridge_sides.specs.declared.which.Which.TheVariants.{First, Second}
use Rattle.cartridge_sides.specs.Pairs.{SideCounts}
use Rattle.cartridge_sides.specs.Passes.{first_image, second_image}
use Rattle.cartridge_sides.specs.Roles.{MayCountBeside, counts_no_other, sides_stand}
use Rattle.object_index.specs.Places.{PlacedPart}
use Rattle.cartridge.specs.Answers.{IsNotOpened}
use Rattle.cartridge.specs.Contents.{GivesContents, IsBadFrameAt, IsContents, IsDamagedPairAt, bodies_of, volume_made}
use Rattle.cartridge.specs.Disks.{OnlyOfTwo, disks_by}
use Rattle.cartridge.specs.Notes.{Notes, noted_as, noted_contents}
use Rattle.cartridge.specs.Inner.Causes.{cartridge_error}
use Rattle.cartridge.specs.Inner.Open.{IsOpen, StoresContents}
use Rattle.cartridge.specs.Inner.Opening.{HasSide}
use Rattle.cartridge.specs.Inner.Reading.{HasRead, IsBadBody}
use Rattle.cartridge.proofs.BesideLemmas.{counts_beside, damaged_pair, end_is, gives_pair}
use Rattle.cartridge.proofs.DisksLemmas.{fault_by, honest_by, none_by, only_by, seen_by}
use Rattle.cartridge.proofs.OpeningLemmas.{bad_frame}

-- what is noted is a cartridge's contents, where the copy is there with which its side began
pub own_contents : (which : Which) (head : Head) (notes : Notes) → IsContents (noted_contents notes) → IsHead head
    → head.heading ≡ notes.heading → base_of head ≤ length notes.frames
    → IsContents (noted_as which head.copied notes)
own_contents which head notes is spelled same there = record {
  kind = is.kind;
  spelled = subst (λ (h : Heading). IsHead (record { heading = h; copied = head.copied })) same spelled;
  base = is.base;
  records = is.records;
  apply = is.apply;
  copied = there;
}

module _ {D : Type 0} (state : D → DiskState) (which : Which) (this spare : D) where
  -- where the two read one pair of images and no other is left, so it is of each
  pub only_apart : IsDisk (state this) → IsDisk (state spare)
      → OnlyOfTwo state (disks_by which this spare) (disks_by which this spare)
      → Only (state this).seen (state this).may_leave × Only (state spare).seen (state spare).may_leave
  only_apart one two = by which
    where
      by : (w : Which) → OnlyOfTwo state (disks_by w this spare) (disks_by w this spare)
          → Only (state this).seen (state this).may_leave × Only (state spare).seen (state spare).may_leave
      by First only = (
        (λ image left. ap (λ (p : List ℕ × List ℕ). p.0) (only (image, (state spare).seen) (left, two.reads))),
        (λ image left. ap (λ (p : List ℕ × List ℕ). p.1) (only ((state this).seen, image) (one.reads, left))),
      )
      by Second only = (
        (λ image left. ap (λ (p : List ℕ × List ℕ). p.1) (only ((state spare).seen, image) (two.reads, left))),
        (λ image left. ap (λ (p : List ℕ × List ℕ). p.0) (only (image, (state this).seen) (left, one.reads))),
      )

  -- the side counts, of what the two disks read, and that is sure
  module _ (is_disk : (d : D) → (state d).honest → IsDisk (state d))
      (found : AreHonest state (disks_by which this spare)
      → HasSide which (seen_of_two state (disks_by which this spare))
      × OnlyOfTwo state (disks_by which this spare) (disks_by which this spare)) where
    sure : AreHonest state (disks_by which this spare)
        → Only (state this).seen (state this).may_leave × Only (state spare).seen (state spare).may_leave
    sure h =
        let both = honest_by state which this spare h in
        only_apart (is_disk this both.0) (is_disk spare both.1) (found h).1

    side : (h : AreHonest state (disks_by which this spare))
        → SideCounts which (found h).0.0 (found h).0.1
        (first_image which (state this).seen (state spare).seen)
        (second_image which (state this).seen (state spare).seen)
    side h =
        subst (λ (i : List ℕ × List ℕ). SideCounts which (found h).0.0 (found h).0.1 i.0 i.1)
        (seen_by state which this spare) (found h).0.2

    module _ (now : D) where
      -- why its side is not decoded is why a cartridge is not opened, by what is indexed and noted of a decoder
      pub not_opened : {T : Type 0} (index : T → List PlacedPart) (notes : T → Notes) (cause : OpenError)
          → IsNotDecoded (λ (d : T). HasRead (index d) (notes d))
          (λ (d : T). IsBadBody (volume_made (noted_contents (notes d)))) SideKinds.Cartridge cause (state this)
          (state now)
          → IsNotOpened state (cartridge_error cause) (disks_by which this spare) (disks_by which now spare)
      not_opened index notes NotOurs why = (
        none_by state which this spare now why.0,
        λ h.
            let both = honest_by state which this spare h in
            absurd (counts_no_other which (found h).0.0 (found h).0.1 (state this).seen (state spare).seen (side h)
            (why.1 both.0).0),
      )
      not_opened index notes (Damaged at) why = (
        none_by state which this spare now why.0,
        λ h.
            let both = honest_by state which this spare h in (
              subst (λ (i : List ℕ × List ℕ). IsDamagedPairAt i at) (sym (seen_by state which this spare))
                  (damaged_pair which (found h).0.0 (found h).0.1 (state this).seen (state spare).seen at (side h)
                  (why.1 both.0).0),
              only_by state which this spare now (why.1 both.0).1 (sure h).1,
            ),
      )
      not_opened index notes (BadRecord at) why = (
        none_by state which this spare now why.0,
        λ h.
            let both = honest_by state which this spare h in
            let bad = (why.1 both.0).0 in
            let front = bad.0 in
            let bodies = bad.1 in
            let stands = bad.3 in
            let refused = bad.4 in
            let is = refused.3 in
            let beside = counts_beside which (found h).0.0 (found h).0.1 (state this).seen (state spare).seen front
            bodies (stands.1.0 ∷ stands.1.1) (side h) stands.0.begins stands.1.3 in (
              subst (λ (i : List ℕ × List ℕ). IsBadFrameAt i at) (sym (seen_by state which this spare)) (
                which,
                front.head,
                bodies,
                (notes refused.0).frames,
                sides_stand which front bodies (state this).seen (state spare).seen beside.0 stands beside.1,
                bad_frame (index refused.0) (notes refused.0) front.head.heading refused.2 _ is.before front.head
                    bodies refused.1 at refl refl is.inside (is.gate ∙ end_is front _) is.bad,
              ),
              only_by state which this spare now (why.1 both.0).1 (sure h).1,
            ),
      )
      not_opened index notes (Device fault) why = fault_by state which this spare now fault why
      not_opened index notes NoMemory why = (
        none_by state which this spare now why.0,
        λ h.
            let both = honest_by state which this spare h in (
              (λ none. none which (found h).0.0 (found h).0.1 (found h).0.2),
              only_by state which this spare now (why.1 both.0).1 (sure h).1,
            ),
      )

    -- the side was opened, and its bodies read
    module _ (now : OpenSide D) (index : List PlacedPart) (notes : Notes) (read : List (List ℕ))
        (is : HasRead index notes now.front.head.heading now.extents read)
        (same : (state this).honest → read ≡ now.bodies)
        (stands : (state this).honest
        → StandsFor now.front now.bodies (state this).seen × Only (state this).seen (state now.disk).may_leave)
        (spelled : IsHead now.front.head) (there : base_of now.front.head ≤ length now.extents) where
      -- what is noted is contents
      pub opened_own : IsContents (noted_as which now.front.head.copied notes)
      opened_own =
          own_contents which now.front.head notes is.is_open.contents spelled is.is_open.heading_is
          (omega (arith, there, is.is_open.counted))

      -- the cartridge is open
      pub opened_open : now.failed ≡ false → IsOpen now.front.head.heading now.extents now.failed index notes
      opened_open fine =
          subst (λ (f : Bool). IsOpen now.front.head.heading now.extents f index notes) (sym fine) is.is_open

      bodies_so : (state this).honest → now.bodies ≡ bodies_of notes.frames
      bodies_so h = sym (same h) ∙ is.spelled

      beside_so : (h : AreHonest state (disks_by which this spare))
          → MayCountBeside which now.front.pair now.front.head (state spare).seen
      beside_so h =
          let one = (honest_by state which this spare h).0 in
          let s = (stands one).0 in
          (counts_beside which (found h).0.0 (found h).0.1 (state this).seen (state spare).seen now.front now.bodies
          (s.1.0 ∷ s.1.1) (side h) s.0.begins s.1.3).1

      -- it stores what was noted
      pub opened_stores : Keeps (state this) (state now.disk) → AreHonest state (disks_by which now.disk spare)
          → AreHonest state (disks_by which this spare)
          → StoresContents (state now.disk) (state spare) which now.front now.bodies notes
      opened_stores keeps later h =
          let one = (honest_by state which this spare h).0 in
          let s = stands one in
          record {
            bodies_are = bodies_so one;
            shows = λ image left. inl (
              opened_own,
              subst (λ (x : List (List ℕ) × List ℕ). StandsFor now.front x.0 x.1)
                  (let e = bodies_so one in let f = sym (s.1 image left) in λ i. (e i, f i)) s.0,
            );
            beside = λ image left.
                subst (λ (l : List ℕ). MayCountBeside which now.front.pair now.front.head l)
                (sym ((sure h).1 image left)) (beside_so h);
          }

      -- what was read is what the two images give
      pub opened_gives : AreHonest state (disks_by which this spare)
          → GivesContents (noted_as which now.front.head.copied notes) (seen_of_two state (disks_by which this spare))
          × OnlyOfTwo state (disks_by which this spare) (disks_by which now.disk spare)
      opened_gives h =
          let one = (honest_by state which this spare h).0 in
          let s = stands one in (
            subst (GivesContents (noted_as which now.front.head.copied notes)) (sym (seen_by state which this spare))
                (gives_pair which now.front notes.heading is.is_open.heading_is (state this).seen (state spare).seen
                (beside_so h) notes.frames (
                  opened_own,
                  subst (λ (b : List (List ℕ)). StandsFor now.front b (state this).seen) (bodies_so one) s.0,
                )),
            only_by state which this spare now.disk s.1 (sure h).1,
          )
