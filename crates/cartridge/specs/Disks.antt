-- What calls do to the two disks of a cartridge.
use Rattle.std.specs.Prelude.{◌≡◌, ◌⊎◌, ℕ, List, Result}
use Rattle.vtl_base.specs.declared.faults.DevFault.{DevFault}
use Rattle.tape_disk.specs.Disk.{DiskCall, DiskState}
use Rattle.tape_disk.specs.Moments.{LeavesOnly}
use Rattle.tape_disk.specs.TwoDisks.{Images, KeepsDisks, MayLeave, TwoDisks, TwoLeave, seen_of_two}
use Rattle.gate_journal.specs.Answers.{NoneFailed}
use Rattle.gate_journal.specs.Reads.{OnlyOpenings, ReadsOnce}
use Rattle.cartridge_sides.specs.declared.which.Which.{Which}
use Rattle.cartridge_sides.specs.declared.which.Which.TheVariants.{First, Second}
use Rattle.cartridge_sides.specs.Choosing.{IsFaultOfOne, SyncFailed, SyncedBefore}
use Rattle.cartridge_sides.specs.Passes.{first_image, other, second_image}

-- the disk on which that side lies (own)
abbrev pub disk_at : {D : Type 0} → Which → TwoDisks D → D
disk_at First disks = disks.first
disk_at Second disks = disks.second

-- the first and the second disk, given the disk of this side and the other one (own)
abbrev pub disks_by : {D : Type 0} → Which → D → D → TwoDisks D
disks_by First this spare = record { first = this; second = spare }
disks_by Second this spare = record { first = spare; second = this }

-- the first and the second image, given the image of this side and the other one (own)
abbrev pub images_by : Which → List ℕ → List ℕ → Images
images_by which this spare = (first_image which this spare, second_image which this spare)

module _ {D : Type 0} (state : D → DiskState) where
  -- no call of either disk failed since the old moment (own)
  abbrev pub NoneOfTwo : TwoDisks D → TwoDisks D → Type 0
  NoneOfTwo old new =
      NoneFailed (state old.first) (state new.first) × NoneFailed (state old.second) (state new.second)

  -- a call of one of them failed since then, and none of the other, and the fault says how many have so far (own)
  abbrev pub IsFaultOfTwo : DevFault → TwoDisks D → TwoDisks D → Type 0
  IsFaultOfTwo fault old new =
      IsFaultOfOne fault (state old.first) (state new.first) (state old.second) (state new.second)

  -- what a read gave of the two is the only pair of images that a crash now may leave (own)
  abbrev pub OnlyOfTwo : TwoDisks D → TwoDisks D → Type 0
  OnlyOfTwo old new = (images : Images) → MayLeave state new images → images ≡ seen_of_two state old

  -- calls of the disk of that side lead from old to new, and the other disk is as it was (own)
  pub record CallsOne (which : Which) (old new : TwoDisks D) : Type 0 where
    pub keeps : KeepsDisks state old new
    pub rests : disk_at (other which) new ≡ disk_at (other which) old

  -- From old to new nothing was written: a read gives the same, and a crash since leaves what it might have left before
  -- (own).
  pub record UnwrittenTwo (old new : TwoDisks D) : Type 0 where
    pub seen : seen_of_two state new ≡ seen_of_two state old
    pub images : (images : Images) → MayLeave state new images → MayLeave state old images
    pub moments : TwoLeave state old new (MayLeave state old)

  -- Each of the two disks that is honest, whatever the other one is: a crash since leaves what it might have left
  -- before (own).
  pub record EachStays (old new : TwoDisks D) : Type 0 where
    pub first : (state old.first).honest →
        LeavesOnly (state old.first) (state new.first) (state old.first).may_leave
    pub second : (state old.second).honest →
        LeavesOnly (state old.second) (state new.second) (state old.second).may_leave

-- Of each of the two disks only syncs were called, and reads of at most 65,536 bytes (own).
pub record OpensEach {D : Type 0} (effect : DiskCall → Result Unit DevFault → D → D → Type 0)
    (old new : TwoDisks D) : Type 0 where
  pub first : OnlyOpenings effect old.first new.first
  pub second : OnlyOpenings effect old.second new.second

-- Both disks were synced before one was read, each by its first call; or a sync failed, the last call of both (own).
abbrev pub SyncsEach : {D : Type 0} → (DiskCall → Result Unit DevFault → D → D → Type 0) → TwoDisks D → TwoDisks D
    → Type 0
SyncsEach effect old new =
    (SyncedBefore effect old.first new.first × SyncedBefore effect old.second new.second)
    ⊎ ((fault : DevFault) × SyncFailed effect fault old.first new.first old.second new.second)

-- The two disks of an opening: both are synced before one is read, of each only syncs and such reads were called, and
-- each that is honest is left as it was (own).
pub record EachOpened {D : Type 0} (state : D → DiskState) (effect : DiskCall → Result Unit DevFault → D → D → Type 0)
    (old new : TwoDisks D) : Type 0 where
  pub stays : EachStays state old new
  pub reads : OpensEach effect old new
  pub begins : SyncsEach effect old new

module _ {D : Type 0} (effect : DiskCall → Result Unit DevFault → D → D → Type 0) where
  -- the disk of that side was read once, of so many bytes (own)
  abbrev pub ReadsSide : Which → ℕ → TwoDisks D → TwoDisks D → Type 0
  ReadsSide First count old new = (place : ℕ) × ReadsOnce effect place count old.first new.first
  ReadsSide Second count old new = (place : ℕ) × ReadsOnce effect place count old.second new.second
