-- A volume is copied to the side that does not count, which counts from then on.
use Rattle.std.specs.Prelude.{◌≡◌, ◌+◌, ℕ, List, drop, length, map}
use Rattle.vtl_base.specs.declared.layout.TheConstants.{BEGUN_BYTES}
use Rattle.volume_core.specs.Volume.{Part}
use Rattle.tape_disk.specs.Disk.{DiskState}
use Rattle.tape_disk.specs.TwoDisks.{Images, TwoDisks}
use Rattle.gate_journal.specs.declared.header.Header.{Header}
use Rattle.gate_journal.specs.declared.heads.Copied.{Copied}
use Rattle.gate_journal.specs.Heads.{Head, epoch_of}
use Rattle.gate_journal.specs.Side.{heading_of}
use Rattle.object_index.specs.Indexes.{Indexes}
use Rattle.object_index.specs.Places.{PlacedPart}
use Rattle.change_records.specs.Records.{spell_all}
use Rattle.cartridge_sides.specs.declared.which.Which.{Which}
use Rattle.cartridge_sides.specs.declared.which.Which.TheVariants.{First, Second}
use Rattle.cartridge_sides.specs.Passes.{IsOpenSideOf, copy_head, other, spell_copy}
use Rattle.side_reclaim.specs.Ready.{GivesSide, GivesSurely, counting, resting}
use Rattle.volume_copy.specs.Copies.{copy_of}
use Rattle.volume_copy.specs.Entries.{entries_in, entry_size}
use Rattle.volume_copy.specs.Frames.{frames_by, frames_of}
use Rattle.volume_reclaim.specs.Reading.{LiesOnDisk}

-- the bodies of the copy of a volume (own)
abbrev pub copy_bodies : List Part → List (List ℕ)
copy_bodies volume = map spell_all (frames_of (copy_of volume))

-- of two disks in order, the disk of the side that counts (own)
abbrev pub counting_disk : {D : Type 0} → Which → TwoDisks D → D
counting_disk First disks = disks.first
counting_disk Second disks = disks.second

-- of two disks in order, the disk of the other side (own)
abbrev pub resting_disk : {D : Type 0} → Which → TwoDisks D → D
resting_disk First disks = disks.second
resting_disk Second disks = disks.first

-- two disks in order, from that of the side that counts and that of the other side (own)
abbrev pub two_by : {D : Type 0} → Which → D → D → TwoDisks D
two_by First counts spare = record { first = counts; second = spare }
two_by Second counts spare = record { first = spare; second = counts }

-- a pair of images in order, from that of the side that counts and that of the other side (own)
abbrev pub images_in_order : Which → List ℕ → List ℕ → Images
images_in_order First counts spare = (counts, spare)
images_in_order Second counts spare = (spare, counts)

-- the copy of a volume counts, on the other side (own)
abbrev pub GivesCopy : Which → Head → List Part → Images → Type 0
GivesCopy which head volume = GivesSide (other which) (copy_head head (copy_bodies volume)) (copy_bodies volume)

-- Both sides are open. The one that counted before is unchanged from place 10 on; the other has the copy of the volume
-- there, and nothing after it (own).
pub record KeepsBesideCopy (which : Which) (head : Head) (volume : List Part) (before images : Images) : Type 0 where
  pub old_side : IsOpenSideOf (drop BEGUN_BYTES (counting which before)) (counting which images)
  pub written : IsOpenSideOf (spell_copy head (copy_bodies volume)) (resting which images)

-- The premise of the promises about bytes. Two disks surely stand for a head and frames, and this index has their
-- volume. The copy has their heading, the next epoch, and as many frames as the copy of the volume (own).
pub record MayReclaim {D : Type 0} (state : D → DiskState) (disks : TwoDisks D) (which : Which) (header : Header)
    (copied : Copied) (parts : List PlacedPart) (head : Head) (bodies : List (List ℕ)) (volume : List Part) : Type 0
  where
    pub gives : GivesSurely state disks which head bodies
    pub heading : heading_of header ≡ head.heading
    pub epoch : copied.epoch ≡ epoch_of head + 1
    pub base : copied.base ≡ length (frames_by entry_size (entries_in parts))
    pub lies : Indexes (LiesOnDisk (state (counting_disk which disks))) volume parts
