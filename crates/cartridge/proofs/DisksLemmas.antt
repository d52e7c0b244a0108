-- Calls of one of two disks, by which it is.
use Rattle.std.proofs.Common.{◌≡◌, inl, inr, ℕ, List, Result, refl, arith}
use Rattle.vtl_base.specs.declared.faults.DevFault.{DevFault}
use Rattle.tape_disk.specs.Disk.{DiskCall, DiskState, IsDisk, Keeps, Only}
use Rattle.tape_disk.specs.Moments.{LeavesOnly, weakened}
use Rattle.tape_disk.specs.Moments as Moments
use Rattle.tape_disk.specs.TwoDisks.{AreHonest, EachOfTwo, Images, KeepsDisks, MayLeave, TwoLeave, one_leg, seen_of_two}
use Rattle.gate_journal.specs.Answers.{IsFault, NoneFailed}
use Rattle.gate_journal.specs.Crash.{Unwritten}
use Rattle.gate_journal.specs.Reads.{OnlyOpenings, ReadsOnce, opens_none}
use Rattle.cartridge_sides.specs.declared.which.Which.{Which}
use Rattle.cartridge_sides.specs.declared.which.Which.TheVariants.{First, Second}
use Rattle.cartridge.specs.Disks.{CallsOne, EachStays, IsFaultOfTwo, NoneOfTwo, OnlyOfTwo, OpensEach, ReadsSide, UnwrittenTwo, disks_by, images_by}

module _ {D : Type 0} (state : D → DiskState) where
  -- a disk that was not called
  pub same_keeps : (d : D) → Keeps (state d) (state d)
  same_keeps d = record { stays_honest = λ h. h; was_honest = λ h. h; counted = omega arith }

  -- this disk and the other one
  module _ (which : Which) (this spare : D) where
    pub honest_by : AreHonest state (disks_by which this spare) → (state this).honest × (state spare).honest
    honest_by = by which
      where
        by : (w : Which) → AreHonest state (disks_by w this spare) → (state this).honest × (state spare).honest
        by First h = h
        by Second h = (h.1, h.0)

    pub by_honest : (state this).honest → (state spare).honest → AreHonest state (disks_by which this spare)
    by_honest = by which
      where
        by : (w : Which) → (state this).honest → (state spare).honest → AreHonest state (disks_by w this spare)
        by First h k = (h, k)
        by Second h k = (k, h)

    pub seen_by : seen_of_two state (disks_by which this spare) ≡ images_by which (state this).seen (state spare).seen
    seen_by = by which
      where
        by : (w : Which) → seen_of_two state (disks_by w this spare) ≡ images_by w (state this).seen (state spare).seen
        by First = refl
        by Second = refl

    pub each_by : (P : Images → Type 0)
        → ((one other : List ℕ) → (state this).may_leave one → (state spare).may_leave other
        → P (images_by which one other))
        → EachOfTwo state (disks_by which this spare) P
    each_by = by which
      where
        by : (w : Which) (P : Images → Type 0)
            → ((one other : List ℕ) → (state this).may_leave one → (state spare).may_leave other
            → P (images_by w one other))
            → EachOfTwo state (disks_by w this spare) P
        by First P has images left = has images.0 images.1 left.0 left.1
        by Second P has images left = has images.1 images.0 left.1 left.0

    -- after calls of this disk alone
    module _ (now : D) where
      pub keeps_by : Keeps (state this) (state now)
          → KeepsDisks state (disks_by which this spare) (disks_by which now spare)
      keeps_by = by which
        where
          by : (w : Which) → Keeps (state this) (state now)
              → KeepsDisks state (disks_by w this spare) (disks_by w now spare)
          by First keeps = (keeps, same_keeps spare)
          by Second keeps = (same_keeps spare, keeps)

      pub calls_one : Keeps (state this) (state now)
          → CallsOne state which (disks_by which this spare) (disks_by which now spare)
      calls_one = by which
        where
          by : (w : Which) → Keeps (state this) (state now)
              → CallsOne state w (disks_by w this spare) (disks_by w now spare)
          by First keeps = record { keeps = (keeps, same_keeps spare); rests = refl }
          by Second keeps = record { keeps = (same_keeps spare, keeps); rests = refl }

      pub none_by : NoneFailed (state this) (state now)
          → NoneOfTwo state (disks_by which this spare) (disks_by which now spare)
      none_by = by which
        where
          by : (w : Which) → NoneFailed (state this) (state now)
              → NoneOfTwo state (disks_by w this spare) (disks_by w now spare)
          by First none = (none, refl)
          by Second none = (refl, none)

      pub fault_by : (fault : DevFault) → IsFault fault (state this) (state now)
          → IsFaultOfTwo state fault (disks_by which this spare) (disks_by which now spare)
      fault_by = by which
        where
          by : (w : Which) (fault : DevFault) → IsFault fault (state this) (state now)
              → IsFaultOfTwo state fault (disks_by w this spare) (disks_by w now spare)
          by First fault is = inl (is, refl)
          by Second fault is = inr (refl, is)

      pub only_by : Only (state this).seen (state now).may_leave → Only (state spare).seen (state spare).may_leave
          → OnlyOfTwo state (disks_by which this spare) (disks_by which now spare)
      only_by = by which
        where
          by : (w : Which) → Only (state this).seen (state now).may_leave
              → Only (state spare).seen (state spare).may_leave
              → OnlyOfTwo state (disks_by w this spare) (disks_by w now spare)
          by First one other images left = λ i. (one images.0 left.0 i, other images.1 left.1 i)
          by Second one other images left = λ i. (other images.0 left.0 i, one images.1 left.1 i)

      pub leg_by : (P : Images → Type 0) → EachOfTwo state (disks_by which this spare) P
          → LeavesOnly (state this) (state now)
          (λ one. (other : List ℕ) → (state spare).may_leave other → P (images_by which one other))
          → TwoLeave state (disks_by which this spare) (disks_by which now spare) P
      leg_by = by which
        where
          by : (w : Which) (P : Images → Type 0) → EachOfTwo state (disks_by w this spare) P
              → LeavesOnly (state this) (state now)
              (λ one. (other : List ℕ) → (state spare).may_leave other → P (images_by w one other))
              → TwoLeave state (disks_by w this spare) (disks_by w now spare) P
          by First P here run = one_leg state (disks_by First this spare) (disks_by First now spare) P here
              (inl (refl, run))
          by Second P here run = one_leg state (disks_by Second this spare) (disks_by Second now spare) P here
              (inr (refl, run))

      -- where nothing new could be left, no new pair could
      pub quiet_by : LeavesOnly (state this) (state now) (state this).may_leave
          → TwoLeave state (disks_by which this spare) (disks_by which now spare)
          (MayLeave state (disks_by which this spare))
      quiet_by run =
          leg_by (MayLeave state (disks_by which this spare)) (λ images left. left)
          (weakened (state this) (state now) (state this).may_leave
          (λ one. (other : List ℕ) → (state spare).may_leave other
          → MayLeave state (disks_by which this spare) (images_by which one other)) run
          (beside which))
        where
          beside : (w : Which) (one : List ℕ) → (state this).may_leave one → (other : List ℕ)
              → (state spare).may_leave other → MayLeave state (disks_by w this spare) (images_by w one other)
          beside First one left other also = (left, also)
          beside Second one left other also = (also, left)

      pub unwritten_by : Unwritten (state this) (state now)
          → UnwrittenTwo state (disks_by which this spare) (disks_by which now spare)
      unwritten_by un = record {
        seen = seen_same which;
        images = images_same which;
        moments = quiet_by un.moments;
      }
        where
          seen_same : (w : Which)
              → seen_of_two state (disks_by w now spare) ≡ seen_of_two state (disks_by w this spare)
          seen_same First = λ i. (un.seen i, (state spare).seen)
          seen_same Second = λ i. ((state spare).seen, un.seen i)

          images_same : (w : Which) (images : Images) → MayLeave state (disks_by w now spare) images
              → MayLeave state (disks_by w this spare) images
          images_same First images left = (un.images images.0 left.0, left.1)
          images_same Second images left = (left.0, un.images images.1 left.1)

  -- where one of the two was called and stays, and the other rests, each stays
  module _ (is_disk : (d : D) → (state d).honest → IsDisk (state d)) where
    stays_here : (d : D) → (state d).honest → LeavesOnly (state d) (state d) (state d).may_leave
    stays_here d h = Moments.no_call (state d) (state d).may_leave (is_disk d h) (λ image left. left)

    pub stays_by : (which : Which) (this spare now : D)
        → ((state this).honest → LeavesOnly (state this) (state now) (state this).may_leave)
        → EachStays state (disks_by which this spare) (disks_by which now spare)
    stays_by First this spare now run = record { first = run; second = stays_here spare }
    stays_by Second this spare now run = record { first = stays_here spare; second = run }

-- where one of the two was opened, and the other rests, each was only opened
pub opens_by : {D : Type 0} (effect : DiskCall → Result Unit DevFault → D → D → Type 0) (which : Which)
    (this spare now : D) → OnlyOpenings effect this now
    → OpensEach effect (disks_by which this spare) (disks_by which now spare)
opens_by effect First this spare now run = record { first = run; second = opens_none effect spare }
opens_by effect Second this spare now run = record { first = opens_none effect spare; second = run }

-- one read of this disk
pub reads_by : {D : Type 0} (effect : DiskCall → Result Unit DevFault → D → D → Type 0) (which : Which)
    (this spare now : D) (place count : ℕ) → ReadsOnce effect place count this now
    → ReadsSide effect which count (disks_by which this spare) (disks_by which now spare)
reads_by effect First this spare now place count read = (place, read)
reads_by effect Second this spare now place count read = (place, read)
