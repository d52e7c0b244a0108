-- What the reading of a cartridge's blocks leaves (own).
use Rattle.std.specs.Prelude.{◌≡◌, ◌⊎◌, ◌<◌, ℕ, Bool, List, [], ◌∷◌, flat_map, length, false, if◌then◌else◌, Option, None, Some, Result, OnOk, IfErr, slice_get}
use Rattle.vtl_base.specs.declared.faults.DevFault.{DevFault}
use Rattle.volume_core.specs.declared.objects.Object.{Object}
use Rattle.volume_core.specs.declared.objects.Object.TheVariants.{Block, Mark}
use Rattle.volume_core.specs.Volume.{Part, objects_of}
use Rattle.tape_disk.specs.Disk.{DiskCall, DiskState}
use Rattle.tape_disk.specs.TwoDisks.{AreHonest, KeepsDisks, TwoDisks, failures_of, seen_of_two}
use Rattle.cartridge_sides.specs.declared.which.Which.{Which}
use Rattle.cartridge.specs.Contents.{Contents, GivesContents, IsBadFrameAt, IsDamagedPairAt, IsNoCartridge, volume_made}
use Rattle.cartridge.specs.Disks.{NoneOfTwo, OnlyOfTwo, ReadsSide, UnwrittenTwo}
use Rattle.cartridge.specs.State.{OpenCartridge}
use Rattle.vtl_faults.specs.declared.faults.VtlFault.{VtlFault}
use Rattle.vtl_faults.specs.declared.faults.VtlFault.TheVariants.{Words, Config, Script, Frame, Device, NoMemory}

-- the length of an object, if it is a block (own)
abbrev pub length_if_block : Object → List ℕ
length_if_block (Block bytes) = length bytes ∷ []
length_if_block Mark = []

-- the length of an object that may be there, if it is a block (own)
abbrev pub length_in : Option Object → List ℕ
length_in None = []
length_in (Some object) = length_if_block object

-- the length of object number `at` of a partition, if it is a block (own)
abbrev pub block_length_at : List Part → ℕ → ℕ → List ℕ
block_length_at volume part at = length_in (slice_get (objects_of volume part) at)

-- the lengths of the blocks among these objects, in their order (own)
abbrev pub block_lengths : List Object → List ℕ
block_lengths objects = flat_map length_if_block objects

-- the lengths of the blocks of these partitions, one partition after another (own)
abbrev pub lengths_in : List Part → List ℕ
lengths_in volume = flat_map (λ (part : Part). block_lengths part.objects) volume

-- the lengths of the blocks of a cartridge's contents that are to be read: of all where that is wanted, else of none
-- (own)
abbrev pub wanted_lengths : Bool → Contents → List ℕ
wanted_lengths wanted contents = if wanted then lengths_in (volume_made contents) else []

module _ {D : Type 0} (effect : DiskCall → Result Unit DevFault → D → D → Type 0) (which : Which) where
  -- the disk of that side was read once for each of these lengths, in their order, each time so many bytes; nothing
  -- else was called (own)
  abbrev pub ReadsEach : List ℕ → TwoDisks D → TwoDisks D → Type 0
  ReadsEach [] old new = new ≡ old
  ReadsEach (count ∷ more) old new =
      (mid : TwoDisks D) × ReadsSide effect which count old mid × ReadsEach more mid new

module _ {D : Type 0} (state : D → DiskState) where
  -- why blocks were not read: a call of a disk failed; or memory ran out, and none did (own)
  abbrev pub IsNotRead : VtlFault → TwoDisks D → TwoDisks D → Type 0
  IsNotRead Device old new = failures_of state old < failures_of state new
  IsNotRead NoMemory old new = NoneOfTwo state old new
  IsNotRead Words old new = ⊥
  IsNotRead Config old new = ⊥
  IsNotRead (Script line) old new = ⊥
  IsNotRead (Frame number) old new = ⊥

  module _ (effect : DiskCall → Result Unit DevFault → D → D → Type 0) where
    -- Blocks of a cartridge were to be read that have these lengths: it holds what it held, and nothing was written.
    -- Each was read to its end and no call failed, or the fault says why not all were read (own).
    pub record IsRead (lengths : List ℕ) (old new : OpenCartridge D) (result : Result (Unit {0}) VtlFault) :
        Type 0 where
      pub disks : KeepsDisks state old.disks new.disks
      pub contents : new.contents ≡ old.contents
      pub awake : OnOk result (new.failed ≡ false)
      pub none_failed : OnOk result (NoneOfTwo state old.disks new.disks)
      pub each : OnOk result (ReadsEach effect old.contents.which lengths old.disks new.disks)
      pub cause : IfErr result (λ fault. IsNotRead fault old.disks new.disks)
      pub unwritten : AreHonest state old.disks → UnwrittenTwo state old.disks new.disks

    -- Two disks were looked at. They give a cartridge, and behind its opening each of its blocks was read to its end,
    -- from the side that counts, where that was wanted, and nothing else was called. Or they give none, or one that is
    -- damaged or has a bad frame (own).
    abbrev pub HaveRead : (wanted : Bool) → (old new : TwoDisks D) → Type 0
    HaveRead wanted old new =
        ((contents : Contents) × GivesContents contents (seen_of_two state old)
        × ((mid : TwoDisks D) × OnlyOfTwo state old mid
        × ReadsEach effect contents.which (wanted_lengths wanted contents) mid new))
        ⊎ (IsNoCartridge (seen_of_two state old)
        ⊎ ((at : ℕ) × (IsDamagedPairAt (seen_of_two state old) at ⊎ IsBadFrameAt (seen_of_two state old) at)))
