-- What holds after each result of a call.
use Rattle.std.specs.Prelude.{◌≡◌, ◌<◌, ◌≤◌, ◌^◌, ◌+◌, ◌-◌, List, [], ◌∷◌, ◌++◌, ℕ, true, false, min, Result, Ok, Err}
use Rattle.vtl_base.specs.declared.layout.TheConstants.{FRAME_HEAD}
use Rattle.vtl_base.specs.declared.faults.DevFault.{DevFault}
use Rattle.tape_disk.specs.Disk.{DiskState, Only}
use Rattle.gate_journal.specs.declared.header.SideKind.{SideKind}
use Rattle.gate_journal.specs.declared.error.JournalError.{JournalError}
use Rattle.gate_journal.specs.declared.error.JournalError.TheVariants.{NotOurs, Damaged, SideFull, Device, Failed, NoMemory}
use Rattle.gate_journal.specs.declared.error.Refused.{Refused}
use Rattle.gate_journal.specs.State.{OpenSide, room_behind}
use Rattle.gate_journal.specs.Side.{BeginsAs, BeginsAsSide, IsNotOurs, IsNotOf, IsDamagedAt, IsDamagedOf}

-- no call of the disk failed since the old moment (own)
abbrev pub NoneFailed : DiskState → DiskState → Type 0
NoneFailed old new = new.failures ≡ old.failures

-- a call of the disk failed since the old moment, and the fault has the count of failures so far (own)
pub record IsFault (fault : DevFault) (old new : DiskState) : Type 0 where
  pub cause : old.failures < new.failures
  pub reported : fault.failures ≡ min new.failures (2 ^ 64 - 1)

-- A fact for each result of a call on an open side: Ok, out of memory, a full side, a fault, or a fault in an earlier
-- call (own).
abbrev pub MatchWrite : Result Unit JournalError → Type 0 → Type 0 → Type 0 → (DevFault → Type 0) → Type 0 → Type 0
MatchWrite (Ok done) ok memory full device failed = ok
MatchWrite (Err NoMemory) ok memory full device failed = memory
MatchWrite (Err SideFull) ok memory full device failed = full
MatchWrite (Err (Device fault)) ok memory full device failed = device fault
MatchWrite (Err Failed) ok memory full device failed = failed
MatchWrite (Err NotOurs) ok memory full device failed = ⊥
MatchWrite (Err (Damaged at)) ok memory full device failed = ⊥

-- an append of `count` bytes was done (own)
pub record Appended {D : Type 0} (old new : OpenSide D) (count : ℕ) : Type 0 where
  pub was_fine : old.failed ≡ false
  pub fitted : count + FRAME_HEAD ≤ room_behind old.end
  pub is_fine : new.failed ≡ false
  pub end : new.end ≡ old.end + FRAME_HEAD + count
  pub extents : new.extents ≡ old.extents ++ (old.end + FRAME_HEAD, count) ∷ []
  pub reserved : old.reserved ≤ new.reserved + 1
  pub reserved_extents : old.reserved_extents ≤ new.reserved_extents + 1

-- the disk failed in an append of `count` bytes (own)
pub record Broke {D : Type 0} (old new : OpenSide D) (count : ℕ) : Type 0 where
  pub was_fine : old.failed ≡ false
  pub fitted : count + FRAME_HEAD ≤ room_behind old.end
  pub failed : new.failed ≡ true
  pub end : new.end ≡ old.end
  pub extents : new.extents ≡ old.extents
  pub reserved : old.reserved ≤ new.reserved
  pub reserved_extents : old.reserved_extents ≤ new.reserved_extents

-- the disk that a call returns, in an open side or in its error (own)
abbrev pub disk_after : {D : Type 0} → Result (OpenSide D) (Refused D) → D
disk_after (Ok side) = side.disk
disk_after (Err refused) = refused.disk

-- Why a side is not opened, given which bytes are not ours, which are, and which are damaged: the first or the last of
-- these; a fault; or memory ran out, over bytes that are ours. Except for a fault, no call failed and the disk's bytes
-- are sure (own).
abbrev pub NotOpenedBy : (List ℕ → Type 0) → (List ℕ → Type 0) → (List ℕ → ℕ → Type 0) → JournalError → DiskState
    → DiskState → Type 0
NotOpenedBy not_ours ours damaged NotOurs old new =
    NoneFailed old new × (old.honest → not_ours old.seen × Only old.seen new.may_leave)
NotOpenedBy not_ours ours damaged (Damaged at) old new =
    NoneFailed old new × (old.honest → damaged old.seen at × Only old.seen new.may_leave)
NotOpenedBy not_ours ours damaged (Device fault) old new = IsFault fault old new
NotOpenedBy not_ours ours damaged NoMemory old new =
    NoneFailed old new × (old.honest → ours old.seen × Only old.seen new.may_leave)
NotOpenedBy not_ours ours damaged SideFull old new = ⊥
NotOpenedBy not_ours ours damaged Failed old new = ⊥

-- why a side of any kind is not opened (own)
abbrev pub NotOpened : JournalError → DiskState → DiskState → Type 0
NotOpened = NotOpenedBy IsNotOurs BeginsAsSide IsDamagedAt

-- why a side is not opened as one of this kind (own)
abbrev pub NotOpenedAs : SideKind → JournalError → DiskState → DiskState → Type 0
NotOpenedAs kind = NotOpenedBy (IsNotOf kind) (BeginsAs kind) (IsDamagedOf kind)

-- why a side is not made: memory ran out and the disk was not touched, or a fault (own)
abbrev pub NotMade : JournalError → Type 0 → (DevFault → Type 0) → Type 0
NotMade NoMemory memory device = memory
NotMade (Device fault) memory device = device fault
NotMade NotOurs memory device = ⊥
NotMade (Damaged at) memory device = ⊥
NotMade SideFull memory device = ⊥
NotMade Failed memory device = ⊥
