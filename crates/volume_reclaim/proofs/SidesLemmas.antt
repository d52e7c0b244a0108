-- A copy is written with two disks, while one of them is read.
use Rattle.std.proofs.Common.{◌≡◌, ◌+◌, ◌-◌, inl, inr, ℕ, zero, suc, List, ◌++◌, length, refl, sym, subst, ap, ◌∙◌, arith}
use Rattle.std.specs.Prelude.{Err, IfErr, Ok, OnOk, Result, drop, take}
use Rattle.std.proofs.lemmas.List.{drop-drop, length-drop}
use Rattle.vtl_base.specs.declared.faults.DevFault.{DevFault}
use Rattle.volume_core.specs.Volume.{Part}
use Rattle.tape_disk.specs.Disk.{DiskState, Each, IsDisk, Keeps}
use Rattle.tape_disk.specs.Moments as Moments
use Rattle.tape_disk.specs.Moments.{LeavesOnly}
use Rattle.tape_disk.specs.TwoDisks.{AreHonest, EachOfTwo, TwoDisks, TwoLeave, seen_of_two}
use Rattle.gate_journal.specs.declared.header.Header.{Header}
use Rattle.gate_journal.specs.declared.heads.Copied.{Copied}
use Rattle.gate_journal.specs.Crash.{Unwritten}
use Rattle.gate_journal.specs.Heads.{Head}
use Rattle.gate_journal.specs.Side.{OPEN}
use Rattle.object_index.specs.Indexes.{Indexes, indexes_by}
use Rattle.object_index.specs.Places.{PlacedPart}
use Rattle.cartridge_sides.specs.declared.which.Which.{Which}
use Rattle.cartridge_sides.specs.declared.which.Which.TheVariants.{First, Second}
use Rattle.cartridge_sides.specs.Choosing.{FaultsOfOne}
use Rattle.cartridge_sides.specs.Copying.{GivesAll, NotCopied}
use Rattle.cartridge_sides.specs.Pairs.{begun}
use Rattle.cartridge_sides.specs.Passes.{IsOpenSideOf, SidesStandFor, TakesOver, spell_copy}
use Rattle.side_reclaim.specs.Ready.{GivesSide, GivesSurely, IsReady, StillGives, counting}
use Rattle.side_reclaim.specs.Taking.{HasTaken, MayTake}
use Rattle.volume_reclaim.specs.Reading.{LiesAtPlace, LiesOnDisk, OnlyRead, ReadUntilFault}
use Rattle.volume_reclaim.specs.ReadFacts.{fault_on}
use Rattle.volume_reclaim.specs.Reclaiming.{GivesCopy, KeepsBesideCopy, MayReclaim, copy_bodies, counting_disk, images_in_order, two_by}

module _ {D : Type 0} (state : D → DiskState) where
  -- the copy may be written while the side that counts is read
  pub may_take : (which : Which) (counts spare : D) (header : Header) (copied : Copied) (parts : List PlacedPart)
      (head : Head) (bodies : List (List ℕ)) (volume : List Part)
      → MayReclaim state (two_by which counts spare) which header copied parts head bodies volume
      → IsReady state (two_by which counts spare) which
      → MayTake header copied which head bodies (state counts).seen (state spare)
  may_take First counts spare header copied parts head bodies volume may ready = record {
    heading = may.heading;
    epoch = may.epoch;
    stands = may.gives.stands;
    paired = ready.paired;
    closed = ready.closed;
    sure = may.gives.second;
  }
  may_take Second counts spare header copied parts head bodies volume may ready = record {
    heading = may.heading;
    epoch = may.epoch;
    stands = may.gives.stands;
    paired = ready.paired;
    closed = ready.closed;
    sure = may.gives.first;
  }

-- the disk of the side that counts after the copy, as its source says
module _ {S : Type 0} (gives : S → List ℕ → S → Type 0) (fails : S → DevFault → S → Type 0) (disk : S → DiskState)
    (reads : (bodies : List (List ℕ)) (a b : S) → GivesAll gives a bodies b → OnlyRead (disk a) (disk b))
    (ends : (a : S) (fault : DevFault) (b : S) → fails a fault b → ReadUntilFault (disk a) fault (disk b)) where
  -- it obeys the laws of disks, nothing was written on it, and faults are of one of the two (own)
  pub record Rests (r : Result Unit DevFault) (old new : S) (spare_old spare_new : DiskState) : Type 0 where
    pub keeps : Keeps (disk old) (disk new)
    pub unwritten : (disk old).honest → Unwritten (disk old) (disk new)
    pub faults : FaultsOfOne r (disk old) (disk new) spare_old spare_new

  pub rests : (r : Result Unit DevFault) (header : Header) (copied : Copied) (old new : S)
      (spare_old spare_new : DiskState)
      → OnOk r ((copies : List (List ℕ)) × HasTaken gives header copied copies old new spare_old spare_new)
      → IfErr r (λ fault. NotCopied gives fails fault old new spare_old spare_new)
      → Rests r old new spare_old spare_new
  rests (Ok done) header copied old new spare_old spare_new taken failed =
      let read = reads taken.0 old new taken.1.gave in
      record { keeps = read.keeps; unwritten = read.unwritten; faults = (read.none_failed, taken.1.none_failed) }
  rests (Err fault) header copied old new spare_old spare_new taken (inl broke) =
      let read = reads broke.1.0 old new broke.1.1 in
      record { keeps = read.keeps; unwritten = read.unwritten; faults = inr (read.none_failed, broke.0) }
  rests (Err fault) header copied old new spare_old spare_new taken (inr fell) =
      let mid = fell.1.1 in
      let all = fault_on (disk old) (disk mid) (disk new) fault (reads fell.1.0 old mid fell.1.2)
      (ends mid fault new fell.1.3) in
      record { keeps = all.keeps; unwritten = all.unwritten; faults = inl (all.failed, fell.0) }

-- each pair of images, by those of both sides
module _ {D : Type 0} (state : D → DiskState) (laws : (disk : D) → (state disk).honest → IsDisk (state disk)) where
  -- a fact of the spare, with the bytes of the side that counts, holds of both
  pub each_of_two : (which : Which) (counts spare : D) (seen : List ℕ) (P : List ℕ × List ℕ → Type 0)
      (Q : List ℕ → Type 0)
      → ((image : List ℕ) → (state counts).may_leave image → image ≡ seen)
      → Each (state spare) Q → ((image : List ℕ) → Q image → P (images_in_order which seen image))
      → EachOfTwo state (two_by which counts spare) P
  each_of_two First counts spare seen P Q sure each means images left =
      subst (λ (l : List ℕ). P (l, images.1)) (sym (sure images.0 left.0)) (means images.1 (each images.1 left.1))
  each_of_two Second counts spare seen P Q sure each means images left =
      subst (λ (l : List ℕ). P (images.0, l)) (sym (sure images.1 left.1)) (means images.0 (each images.0 left.0))

  -- the spare moves, and then the side that counts is read
  pub both_move : (which : Which) (counts counts_then spare spare_then : D)
      (P : List ℕ × List ℕ → Type 0) (Q : List ℕ → Type 0)
      → ((image : List ℕ) → (state counts).may_leave image → image ≡ (state counts).seen)
      → Unwritten (state counts) (state counts_then) → (state spare_then).honest
      → Each (state spare) Q → LeavesOnly (state spare) (state spare_then) Q
      → ((image : List ℕ) → Q image → P (images_in_order which (state counts).seen image))
      → TwoLeave state (two_by which counts spare) (two_by which counts_then spare_then) P
  both_move First counts counts_then spare spare_then P Q sure read honest each run means = (
    suc (suc zero),
    (
      two_by First counts spare_then,
      (
        two_by First counts spare,
        (refl, each_of_two First counts spare (state counts).seen P Q sure each means),
        inr (
          refl,
          Moments.weakened (state spare) (state spare_then) Q
              (λ two. (one : List ℕ) → (state counts).may_leave one → P (one, two)) run
              (λ two has one left. subst (λ (l : List ℕ). P (l, two)) (sym (sure one left)) (means two has)),
        ),
      ),
      inl (
        refl,
        Moments.weakened (state counts) (state counts_then) (state counts).may_leave
            (λ one. (two : List ℕ) → (state spare_then).may_leave two → P (one, two)) read.moments
            (λ one left two may. subst (λ (l : List ℕ). P (l, two)) (sym (sure one left))
            (means two (Moments.holds_now (state spare) (state spare_then) Q (laws spare_then honest) run two may))),
      ),
    ),
  )
  both_move Second counts counts_then spare spare_then P Q sure read honest each run means = (
    suc (suc zero),
    (
      two_by Second counts spare_then,
      (
        two_by Second counts spare,
        (refl, each_of_two Second counts spare (state counts).seen P Q sure each means),
        inl (
          refl,
          Moments.weakened (state spare) (state spare_then) Q
              (λ one. (two : List ℕ) → (state counts).may_leave two → P (one, two)) run
              (λ one has two left. subst (λ (l : List ℕ). P (one, l)) (sym (sure two left)) (means one has)),
        ),
      ),
      inr (
        refl,
        Moments.weakened (state counts) (state counts_then) (state counts).may_leave
            (λ two. (one : List ℕ) → (state spare_then).may_leave one → P (one, two)) read.moments
            (λ two left one may. subst (λ (l : List ℕ). P (one, l)) (sym (sure two left))
            (means one (Moments.holds_now (state spare) (state spare_then) Q (laws spare_then honest) run one may))),
      ),
    ),
  )

-- the pair stands for the copy, where that took over
pub takes_as : (which : Which) (head : Head) (volume : List Part) (copies : List (List ℕ)) (counts image : List ℕ)
    → copies ≡ copy_bodies volume → TakesOver which head copies counts image
    → GivesCopy which head volume (images_in_order which counts image)
takes_as First head volume copies counts image are takes =
    subst (λ (l : List (List ℕ)). TakesOver First head l counts image) are takes
takes_as Second head volume copies counts image are takes =
    subst (λ (l : List (List ℕ)). TakesOver Second head l counts image) are takes

-- or for the same as before
pub stands_as : (which : Which) (head : Head) (bodies : List (List ℕ)) (counts image : List ℕ)
    → SidesStandFor which head bodies counts image → GivesSide which head bodies (images_in_order which counts image)
stands_as First head bodies counts image stands = stands
stands_as Second head bodies counts image stands = stands

-- an image that begins as an open side is one, with all bytes after its ten
open_with : (image : List ℕ) (pair : ℕ) (rest : List ℕ) → image ≡ begun OPEN pair ++ rest
    → IsOpenSideOf (drop 10 image) image
open_with image pair rest is =
    (pair, is ∙ ap (λ (l : List ℕ). begun OPEN pair ++ drop 10 l) (sym is))

-- the side that counts is open
counts_open : (which : Which) (head : Head) (bodies : List (List ℕ)) (one two : List ℕ)
    → GivesSide which head bodies (one, two)
    → IsOpenSideOf (drop 10 (counting which (one, two))) (counting which (one, two))
counts_open First head bodies one two gives = open_with one gives.1.3.0 _ gives.1.3.1.image_is
counts_open Second head bodies one two gives = open_with two gives.1.3.0 _ gives.1.3.2.image_is

-- the facts of both sides, whichever disk each is on
module _ {D : Type 0} (state : D → DiskState) where
  pub honest_by : (which : Which) (counts spare : D) → AreHonest state (two_by which counts spare)
      → (state counts).honest × (state spare).honest
  honest_by First counts spare honest = honest
  honest_by Second counts spare honest = (honest.1, honest.0)

  pub sure_by : (which : Which) (counts spare : D) (head : Head) (bodies : List (List ℕ))
      → GivesSurely state (two_by which counts spare) which head bodies
      → (image : List ℕ) → (state counts).may_leave image → image ≡ (state counts).seen
  sure_by First counts spare head bodies gives = gives.first
  sure_by Second counts spare head bodies gives = gives.second

  -- where the copy was written, the side that counted is unchanged, and the other has the copy alone
  pub old_side_beside : (which : Which) (counts counts_then spare spare_then : D) (head : Head) (bodies : List (List ℕ))
      (volume : List Part) (copies : List (List ℕ)) → GivesSurely state (two_by which counts spare) which head bodies
      → Unwritten (state counts) (state counts_then) → copies ≡ copy_bodies volume
      → Each (state spare_then) (IsOpenSideOf (spell_copy head copies))
      → EachOfTwo state (two_by which counts_then spare_then)
      (KeepsBesideCopy which head volume (seen_of_two state (two_by which counts spare)))
  old_side_beside First counts counts_then spare spare_then head bodies volume copies gives still are alone images
      left =
      record {
        old_side =
            subst (λ (l : List ℕ). IsOpenSideOf (drop 10 (state counts).seen) l)
            (sym (gives.first images.0 (still.images images.0 left.0)))
            (counts_open First head bodies (state counts).seen (state spare).seen gives.stands);
        written =
            subst (λ (l : List (List ℕ)). IsOpenSideOf (spell_copy head l) images.1) are (alone images.1 left.1);
      }
  old_side_beside Second counts counts_then spare spare_then head bodies volume copies gives still are alone images
      left =
      record {
        old_side =
            subst (λ (l : List ℕ). IsOpenSideOf (drop 10 (state counts).seen) l)
            (sym (gives.second images.1 (still.images images.1 left.1)))
            (counts_open Second head bodies (state spare).seen (state counts).seen gives.stands);
        written =
            subst (λ (l : List (List ℕ)). IsOpenSideOf (spell_copy head l) images.0) are (alone images.0 left.0);
      }

  -- the same since the disks were made ready, which left it unchanged after its ten bytes
  pub old_side_since : (which : Which) (head : Head) (bodies : List (List ℕ)) (volume : List Part)
      (old mid new : TwoDisks D) (r : Result Unit DevFault) → StillGives state old mid which head bodies
      → OnOk r (EachOfTwo state new (KeepsBesideCopy which head volume (seen_of_two state mid)))
      → OnOk r (EachOfTwo state new (KeepsBesideCopy which head volume (seen_of_two state old)))
  old_side_since which head bodies volume old mid new (Err fault) still keeps = tt
  old_side_since which head bodies volume old mid new (Ok done) still keeps = λ images left.
      let each = keeps images left in
      record {
        old_side = subst (λ (l : List ℕ). IsOpenSideOf l (counting which images)) still.same each.old_side;
        written = each.written;
      }

  pub lies_by : (which : Which) (counts spare : D) (parts : List PlacedPart) (volume : List Part)
      → Indexes (LiesOnDisk (state (counting_disk which (two_by which counts spare)))) volume parts
      → Indexes (LiesOnDisk (state counts)) volume parts
  lies_by First counts spare parts volume lies = lies
  lies_by Second counts spare parts volume lies = lies

-- a block stays where it lies, where the bytes after the first ten stay
lies_behind : (old new block : List ℕ) (place : ℕ) → drop 10 new ≡ drop 10 old → LiesAtPlace old block place
    → LiesAtPlace new block place
lies_behind old new block place same lies =
    let long = ap (λ (l : List ℕ). length l) same in
    let far : 10 + (place - 10) ≡ place = omega (arith, lies.behind) in
    let from : drop place new ≡ drop place old =
    ap (λ (n : ℕ). drop n new) (sym far)
    ∙ sym (drop-drop (place - 10) 10 new)
    ∙ ap (λ (l : List ℕ). drop (place - 10) l) same
    ∙ drop-drop (place - 10) 10 old
    ∙ ap (λ (n : ℕ). drop n old) far in
    record {
      behind = lies.behind;
      inside =
          omega (arith, lies.inside, lies.behind, long, length-drop {A = ℕ} 10 new, length-drop {A = ℕ} 10 old);
      there = ap (λ (l : List ℕ). take (place + length block - place) l) from ∙ lies.there;
    }

module _ {D : Type 0} (state : D → DiskState) where
  lies_ready : (old new : D) → (state old).honest → drop 10 (state new).seen ≡ drop 10 (state old).seen
      → (parts : List PlacedPart) (volume : List Part) → Indexes (LiesOnDisk (state old)) volume parts
      → Indexes (LiesOnDisk (state new)) volume parts
  lies_ready old new honest same parts volume lies =
      indexes_by (LiesOnDisk (state old)) (LiesOnDisk (state new)) volume parts
      (λ block place is then_honest. lies_behind (state old).seen (state new).seen block place same (is honest)) lies

  -- the premise of the promises holds once the disks are ready
  pub may_still : (which : Which) (old new : TwoDisks D) (header : Header) (copied : Copied) (parts : List PlacedPart)
      (head : Head) (bodies : List (List ℕ)) (volume : List Part) → AreHonest state old
      → MayReclaim state old which header copied parts head bodies volume
      → StillGives state old new which head bodies
      → MayReclaim state new which header copied parts head bodies volume
  may_still First old new header copied parts head bodies volume honest may still = record {
    gives = still.gives;
    heading = may.heading;
    epoch = may.epoch;
    base = may.base;
    lies = lies_ready old.first new.first honest.0 still.same parts volume may.lies;
  }
  may_still Second old new header copied parts head bodies volume honest may still = record {
    gives = still.gives;
    heading = may.heading;
    epoch = may.epoch;
    base = may.base;
    lies = lies_ready old.second new.second honest.1 still.same parts volume may.lies;
  }
