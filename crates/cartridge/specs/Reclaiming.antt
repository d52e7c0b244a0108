-- A cartridge is reclaimed: its volume is copied to the side that does not count, which counts from then on.
use Rattle.std.specs.Prelude.{◌≡◌, ◌⊎◌, ◌<◌, ◌≤◌, ◌+◌, ◌-◌, ◌*◌, ◌^◌, ℕ, List, [], length, true, false, slice_index_or, sum_by, Result, Ok, Err}
use Rattle.vtl_base.specs.declared.layout.TheConstants.{BEGUN_BYTES, FRAME_HEAD}
use Rattle.vtl_base.specs.declared.faults.DevFault.{DevFault}
use Rattle.vtl_base.specs.declared.limits.TheConstants.{MAX_SIDE}
use Rattle.volume_core.specs.declared.changes.Change.{Change}
use Rattle.tape_disk.specs.Disk.{DiskState}
use Rattle.tape_disk.specs.TwoDisks.{AreHonest, Images, TwoDisks, seen_of_two}
use Rattle.gate_journal.specs.Heads.{epoch_of, spell_side_head}
use Rattle.gate_journal.specs.Side.{Front}
use Rattle.gate_journal.specs.State.{IsBodyAt}
use Rattle.cartridge_sides.specs.Passes.{copy_head, other}
use Rattle.volume_copy.specs.Copies.{copy_of}
use Rattle.volume_copy.specs.Frames.{change_size, frames_of}
use Rattle.volume_reclaim.specs.Reclaiming.{KeepsBesideCopy}
use Rattle.cartridge.specs.declared.error.CartridgeError.{CartridgeError}
use Rattle.cartridge.specs.declared.error.CartridgeError.TheVariants.{NotOurs, Damaged, BadRecord, SideFull, Device, Failed, NoMemory}
use Rattle.cartridge.specs.declared.reclaiming.NotReclaimed.{NotReclaimed}
use Rattle.cartridge.specs.declared.reclaiming.ReclaimError.{ReclaimError}
use Rattle.cartridge.specs.declared.reclaiming.ReclaimError.TheVariants.{Cartridge, EpochsSpent}
use Rattle.cartridge.specs.Answers.{IsNotOpened}
use Rattle.cartridge.specs.Contents.{Contents, GivesContents, bodies_of, contents_from, volume_made}
use Rattle.cartridge.specs.Disks.{IsFaultOfTwo, NoneOfTwo, OnlyOfTwo, UnwrittenTwo}
use Rattle.cartridge.specs.Notes.{Notes, noted_contents}
use Rattle.cartridge.specs.State.{ClosedCartridge}

-- the frames of the copy of the volume that a cartridge holds (own)
abbrev pub copy_frames : Contents → List (List Change)
copy_frames contents = frames_of (copy_of (volume_made contents))

-- What a cartridge holds once it was reclaimed: the other side counts, its epoch is one more, and it has the frames of
-- the copy and no others, as many as its base (own).
abbrev pub reclaimed_from : Contents → Contents
reclaimed_from contents =
    contents_from (other contents.which) (copy_head contents.head (bodies_of (copy_frames contents)))
    (copy_frames contents)

-- Both sides are open. The one that counted has all that it had from place 10 on, and the other one the copy of these
-- contents' volume there, and nothing behind it (own).
abbrev pub KeepsOldSide : Contents → Images → Images → Type 0
KeepsOldSide contents before images =
    KeepsBesideCopy contents.which contents.head (volume_made contents) before images

-- the notes of a cartridge once it was reclaimed (own)
abbrev pub notes_copied : Notes → Notes
notes_copied notes = record notes { frames = copy_frames (noted_contents notes); torn = [] }

-- how many bytes the side of the copy would have, its last closed gate included (own)
abbrev pub copy_length : Contents → ℕ
copy_length contents =
    BEGUN_BYTES + length (spell_side_head (copy_head contents.head (bodies_of (copy_frames contents))))
    + FRAME_HEAD * length (copy_frames contents) + sum_by change_size (copy_of (volume_made contents)) + 1

-- the images give these contents, or the copy of their volume, which gives the same volume (own)
abbrev pub GivesVolume : Contents → Images → Type 0
GivesVolume contents images =
    GivesContents contents images
    ⊎ (GivesContents (reclaimed_from contents) images
    × (volume_made (reclaimed_from contents) ≡ volume_made contents))

-- the images are old ones, or give the contents that were read, or the copy of their volume (own)
abbrev pub LeavesVolume : (Images → Type 0) → Images → Images → Type 0
LeavesVolume old seen images =
    old images ⊎ ((contents : Contents) × GivesContents contents seen × GivesVolume contents images)

-- why there is no room or no epoch for a copy, or that memory ran out where there is both (own)
abbrev pub IsUnplanned : Contents → ReclaimError → Type 0
IsUnplanned contents EpochsSpent = (copy_length contents ≤ MAX_SIDE) × (epoch_of contents.head ≡ 2 ^ 64 - 1)
IsUnplanned contents (Cartridge SideFull) = MAX_SIDE < copy_length contents
IsUnplanned contents (Cartridge NoMemory) =
    (copy_length contents ≤ MAX_SIDE) × (epoch_of contents.head < 2 ^ 64 - 1)
IsUnplanned contents (Cartridge NotOurs) = ⊥
IsUnplanned contents (Cartridge (Damaged at)) = ⊥
IsUnplanned contents (Cartridge (BadRecord at)) = ⊥
IsUnplanned contents (Cartridge (Device fault)) = ⊥
IsUnplanned contents (Cartridge Failed) = ⊥

-- each body lies behind the ten bytes of its side, where its extent says (own)
abbrev pub HasBodies : List ℕ → Front → List (List ℕ) → List (ℕ × ℕ) → Type 0
HasBodies seen front bodies extents =
    (frame : ℕ) → frame < length extents
    → (1 ≤ (slice_index_or extents frame (0, 0)).1)
    × IsBodyAt seen front bodies frame (slice_index_or extents frame (0, 0))

-- the disks of what is returned (own)
abbrev pub disks_reclaimed : {D : Type 0} → Result (ClosedCartridge D) (NotReclaimed D) → TwoDisks D
disks_reclaimed (Ok cartridge) = cartridge.disks
disks_reclaimed (Err refused) = refused.shelved.disks

module _ {D : Type 0} (state : D → DiskState) where
  -- a disk failed, and nothing is known of the cartridge until it is opened (own)
  abbrev pub IsBrokenOff : TwoDisks D → NotReclaimed D → Type 0
  IsBrokenOff old refused =
      (fault : DevFault) × (refused.error ≡ Cartridge (Device fault))
      × IsFaultOfTwo state fault old refused.shelved.disks × (refused.shelved.known ≡ false)

  -- Why a cartridge is not reclaimed: it is not opened, and is returned as it was; or there is no room or no epoch for
  -- the copy of what it holds, or memory ran out, and it is returned closed, with what it holds; or a disk failed
  -- (own).
  abbrev pub IsNotReclaimed : ClosedCartridge D → NotReclaimed D → Type 0
  IsNotReclaimed old refused =
      ((error : CartridgeError) × (refused.error ≡ Cartridge error)
      × IsNotOpened state error old.disks refused.shelved.disks
      × (refused.shelved ≡ record old { disks = refused.shelved.disks }))
      ⊎ ((NoneOfTwo state old.disks refused.shelved.disks × (refused.shelved.known ≡ true)
      × IsUnplanned refused.shelved.contents refused.error
      × (AreHonest state old.disks → GivesContents refused.shelved.contents (seen_of_two state old.disks)))
      ⊎ IsBrokenOff old.disks refused)

  -- nothing was written, and what the disks read is sure (own)
  abbrev pub StaysSure : TwoDisks D → TwoDisks D → Type 0
  StaysSure old new = UnwrittenTwo state old new × OnlyOfTwo state old new

  -- what the cause why a cartridge is not reclaimed says of its disks: unless one failed, nothing was written (own)
  abbrev pub IsUntouched : ReclaimError → TwoDisks D → TwoDisks D → Type 0
  IsUntouched EpochsSpent old new = StaysSure old new
  IsUntouched (Cartridge NotOurs) old new = StaysSure old new
  IsUntouched (Cartridge (Damaged at)) old new = StaysSure old new
  IsUntouched (Cartridge (BadRecord at)) old new = StaysSure old new
  IsUntouched (Cartridge SideFull) old new = StaysSure old new
  IsUntouched (Cartridge Failed) old new = StaysSure old new
  IsUntouched (Cartridge NoMemory) old new = StaysSure old new
  IsUntouched (Cartridge (Device fault)) old new = Unit {0}
