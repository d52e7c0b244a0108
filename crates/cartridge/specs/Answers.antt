-- What holds after each answer of a call.
use Rattle.std.specs.Prelude.{◌≡◌, ◌⊎◌, ◌<◌, ◌≤◌, ◌+◌, ℕ, List, [], ◌∷◌, length, true, false, Result, Ok, Err, if◌then◌else◌, sum_by, slice_index_or, ◌==◌}
use Rattle.vtl_base.specs.declared.layout.TheConstants.{FRAME_HEAD}
use Rattle.vtl_base.specs.declared.faults.DevFault.{DevFault}
use Rattle.volume_core.specs.declared.changes.Change.{Change}
use Rattle.volume_core.specs.declared.changes.Change.TheVariants.{Put, Marks, Erase}
use Rattle.tape_disk.specs.Disk.{DiskState}
use Rattle.tape_disk.specs.TwoDisks.{AreHonest, TwoDisks, seen_of_two}
use Rattle.cartridge.specs.declared.error.CartridgeError.{CartridgeError}
use Rattle.cartridge.specs.declared.error.CartridgeError.TheVariants.{NotOurs, Damaged, BadRecord, SideFull, Device, Failed, NoMemory}
use Rattle.cartridge.specs.declared.error.NotCreated.{NotCreated}
use Rattle.cartridge.specs.declared.error.NotOpened.{NotOpened}
use Rattle.cartridge.specs.Contents.{IsBadFrameAt, IsDamagedPairAt, IsNoCartridge, with_frames}
use Rattle.cartridge.specs.Disks.{IsFaultOfTwo, NoneOfTwo, OnlyOfTwo}
use Rattle.change_records.specs.Records.{spell_all}
use Rattle.cartridge.specs.State.{ClosedCartridge, OpenCartridge, OpeningState, Reserved}

-- A fact for each answer of a call on an open cartridge: done, out of memory, a full side, a fault, a fault in an
-- earlier call (own).
abbrev pub MatchCall : Result Unit CartridgeError → Type 0 → Type 0 → Type 0 → (DevFault → Type 0) → Type 0 → Type 0
MatchCall (Ok done) ok memory full device failed = ok
MatchCall (Err NoMemory) ok memory full device failed = memory
MatchCall (Err SideFull) ok memory full device failed = full
MatchCall (Err (Device fault)) ok memory full device failed = device fault
MatchCall (Err Failed) ok memory full device failed = failed
MatchCall (Err NotOurs) ok memory full device failed = ⊥
MatchCall (Err (Damaged at)) ok memory full device failed = ⊥
MatchCall (Err (BadRecord at)) ok memory full device failed = ⊥

-- what is reserved is no less than before (own)
pub record KeepsReserved (old new : Reserved) : Type 0 where
  pub body : old.body ≤ new.body
  pub frames : old.frames ≤ new.frames
  pub entries : (part : ℕ) → slice_index_or old.entries part 0 ≤ slice_index_or new.entries part 0

-- the blocks and the runs of marks that a change puts into that partition (own)
abbrev pub entries_of : ℕ → Change → ℕ
entries_of part (Put p at block) = if part == p then 1 else 0
entries_of part (Marks p at count) = if part == p then 1 else 0
entries_of part (Erase p at) = 0

-- what changes in one frame take of the reserved memory, and what is left of it (own)
pub record TakesReserved (old : Reserved) (changes : List Change) (new : Reserved) : Type 0 where
  pub body : old.body ≤ new.body
  pub frames : old.frames ≤ new.frames + 1
  pub entries : (part : ℕ) →
      slice_index_or old.entries part 0 ≤ slice_index_or new.entries part 0 + sum_by (entries_of part) changes

-- less is reserved than a frame takes that has a body of this many bytes and puts this many blocks and runs of marks
-- into that partition (own)
abbrev pub Lacks : Reserved → ℕ → ℕ → ℕ → Type 0
Lacks old part body entries =
    (old.frames ≡ 0) ⊎ ((old.body < body)
    ⊎ ((part < length old.entries) × (slice_index_or old.entries part 0 < entries)))

-- less is reserved than these changes take as a frame (own)
abbrev pub LacksReserved : Reserved → List Change → Type 0
LacksReserved old changes =
    (old.frames ≡ 0) ⊎ ((old.body < length (spell_all changes))
    ⊎ ((part : ℕ) × (slice_index_or old.entries part 0 < sum_by (entries_of part) changes)))

-- memory is reserved for this many frames, for bodies of this many bytes, and for this many blocks and runs of marks in
-- each partition (own)
pub record HasReserved (stores body entries : ℕ) (reserved : Reserved) : Type 0 where
  pub frames : stores ≤ reserved.frames
  pub longest : body ≤ reserved.body
  pub each : (part : ℕ) → part < length reserved.entries → entries ≤ slice_index_or reserved.entries part 0

-- less is reserved of one of the three: frames, bytes of bodies, or blocks and runs of marks in a partition (own)
abbrev pub LacksStores : Reserved → ℕ → ℕ → ℕ → Type 0
LacksStores old stores body entries =
    (old.frames < stores) ⊎ ((old.body < body)
    ⊎ ((part : ℕ) × (part < length old.entries) × (slice_index_or old.entries part 0 < entries)))

module _ {D : Type 0} where
  -- these changes were stored, as one frame (own)
  pub record HasStored (old : OpenCartridge D) (changes : List Change) (new : OpenCartridge D) : Type 0 where
    pub was_fine : old.failed ≡ false
    pub is_fine : new.failed ≡ false
    pub contents : new.contents ≡ with_frames old.contents (changes ∷ [])
    pub torn : new.torn ≡ old.torn
    pub room : new.room + (length (spell_all changes) + FRAME_HEAD) ≡ old.room
    pub reserved : TakesReserved old.reserved changes new.reserved

  -- the disk failed while these changes were stored: the contents are unchanged, and these changes are the frame that
  -- was in flight (own)
  pub record HasBroken (old : OpenCartridge D) (changes : List Change) (new : OpenCartridge D) : Type 0 where
    pub was_fine : old.failed ≡ false
    pub fitted : length (spell_all changes) + FRAME_HEAD ≤ old.room
    pub failed : new.failed ≡ true
    pub contents : new.contents ≡ old.contents
    pub torn : new.torn ≡ changes ∷ []
    pub room : new.room ≡ old.room
    pub reserved : KeepsReserved old.reserved new.reserved

  -- memory ran out, since less was reserved than these changes take; nothing but what is reserved has changed (own)
  pub record LacksMemory (old : OpenCartridge D) (changes : List Change) (new : OpenCartridge D) : Type 0 where
    pub was_fine : old.failed ≡ false
    pub fitted : length (spell_all changes) + FRAME_HEAD ≤ old.room
    pub lacked : LacksReserved old.reserved changes
    pub same : new ≡ record old { reserved = new.reserved }
    pub reserved : KeepsReserved old.reserved new.reserved

  -- the disks that a creation returns (own)
  abbrev pub disks_created : Result (ClosedCartridge D) (NotCreated D) → TwoDisks D
  disks_created (Ok cartridge) = cartridge.disks
  disks_created (Err refused) = record { first = refused.first; second = refused.second }

-- the disks that an opening gives, in an open cartridge or in the closed one that is returned (own)
abbrev pub disks_opened : {D : Type 0} → Result (OpenCartridge D) (NotOpened D) → TwoDisks D
disks_opened (Ok cartridge) = cartridge.disks
disks_opened (Err refused) = refused.shelved.disks

-- the disks that the beginning of an opening gives, in the same way (own)
abbrev pub disks_begun : {D : Type 0} → Result (OpeningState D) (NotOpened D) → TwoDisks D
disks_begun (Ok opening) = opening.cartridge.disks
disks_begun (Err refused) = refused.shelved.disks

-- why a cartridge is not made: memory ran out, and no disk was touched; or a fault (own)
abbrev pub IsNotCreated : CartridgeError → Type 0 → (DevFault → Type 0) → Type 0
IsNotCreated NoMemory memory device = memory
IsNotCreated (Device fault) memory device = device fault
IsNotCreated NotOurs memory device = ⊥
IsNotCreated (Damaged at) memory device = ⊥
IsNotCreated (BadRecord at) memory device = ⊥
IsNotCreated SideFull memory device = ⊥
IsNotCreated Failed memory device = ⊥

module _ {D : Type 0} (state : D → DiskState) where
  -- no call of either disk failed; and where both are honest this is true, and a crash leaves just what a read gives
  -- (own)
  abbrev pub ReadsSure : TwoDisks D → TwoDisks D → Type 0 → Type 0
  ReadsSure old new what =
      NoneOfTwo state old new × (AreHonest state old → what × OnlyOfTwo state old new)

  -- Why a cartridge is not opened: what the old bytes are; a fault; or memory ran out, where a side counts. Except for
  -- a fault, no call failed, and what stands on the disks is sure (own).
  abbrev pub IsNotOpened : CartridgeError → TwoDisks D → TwoDisks D → Type 0
  IsNotOpened NotOurs old new = ReadsSure old new (IsNoCartridge (seen_of_two state old))
  IsNotOpened (Damaged at) old new = ReadsSure old new (IsDamagedPairAt (seen_of_two state old) at)
  IsNotOpened (BadRecord at) old new = ReadsSure old new (IsBadFrameAt (seen_of_two state old) at)
  IsNotOpened (Device fault) old new = IsFaultOfTwo state fault old new
  IsNotOpened NoMemory old new = ReadsSure old new (IsNoCartridge (seen_of_two state old) → ⊥)
  IsNotOpened SideFull old new = ⊥
  IsNotOpened Failed old new = ⊥
