-- What holds after each result of a call.
use Rattle.std.specs.Prelude.{◌≡◌, ◌≤◌, ◌+◌, ℕ, List, [], ◌∷◌, ◌++◌, Some, true, Result, Ok, Err}
use Rattle.vtl_base.specs.declared.faults.DevFault.{DevFault}
use Rattle.tape_disk.specs.Disk.{DiskState, Only}
use Rattle.gate_journal.specs.declared.header.SideKind.TheVariants.{Store}
use Rattle.gate_journal.specs.Side.{BeginsAs, Heading, IsDamagedOf}
use Rattle.gate_journal.specs.Answers.{IsFault, NoneFailed}
use Rattle.pr_core.specs.declared.states.PrState.{PrState}
use Rattle.pr_core.specs.declared.keepers.KeeperError.{KeeperError}
use Rattle.pr_core.specs.declared.keepers.KeeperError.TheVariants as save
use Rattle.pr_core.specs.Keepers.{state_frame_size}
use Rattle.aptpl_store.specs.declared.error.StoreError.{StoreError}
use Rattle.aptpl_store.specs.declared.error.StoreError.TheVariants.{NotOurs, Damaged, BadRecord, Device, NoMemory}
use Rattle.aptpl_store.specs.declared.error.StoreRefused.{StoreRefused}
use Rattle.aptpl_store.specs.Contents.{IsBadStateAt, IsNoStore, OpensAs}
use Rattle.aptpl_store.specs.State.{OpenStore}

module _ {D : Type 0} where
  -- The store after saving a state with this result, over any disk. At Ok the state comes last, in a frame of its own.
  -- After a fault its save is in doubt. Memory runs out only where no save is reserved (own).
  abbrev pub SavesState : OpenStore D → PrState → Result Unit KeeperError → OpenStore D → Type 0
  SavesState old state (Ok done) new =
      new ≡ record old {
        disk = new.disk;
        states = old.states ++ state ∷ [];
        room = new.room;
        reserved = new.reserved;
      }
      × (new.room + state_frame_size state ≡ old.room) × (old.reserved ≤ new.reserved + 1)
  SavesState old state (Err save.Device) new =
      new ≡ record old { disk = new.disk; torn = Some state; failed = true; reserved = new.reserved }
      × (old.reserved ≤ new.reserved)
  SavesState old state (Err save.NoMemory) new = (old.reserved ≡ 0) × (new ≡ old)
  SavesState old state (Err save.SideFull) new = new ≡ old
  SavesState old state (Err save.Failed) new = new ≡ old

  -- the disk that a creation returns, in the store or in its error (own)
  abbrev pub disk_of_new : Result (OpenStore D) (StoreRefused D) → D
  disk_of_new (Ok store) = store.disk
  disk_of_new (Err refused) = refused.disk

  -- the disk that an opening returns, in the store or in its error (own)
  abbrev pub disk_of_opened : {R : Type 0} → Result (OpenStore D × R) (StoreRefused D) → D
  disk_of_opened (Ok opened) = opened.0.disk
  disk_of_opened (Err refused) = refused.disk

-- a cause that does not come from the bytes: the disk failed, or memory ran out (own)
abbrev pub IsNotOfBytes : StoreError → Type 0
IsNotOfBytes (Device fault) = Unit {0}
IsNotOfBytes NoMemory = Unit {0}
IsNotOfBytes NotOurs = ⊥
IsNotOfBytes (Damaged at) = ⊥
IsNotOfBytes (BadRecord at) = ⊥

-- An opening returns the state that these bytes open as; there is at most one. If it returns an error though they open
-- as a state, the disk failed or memory ran out (own).
abbrev pub Recovers : {D : Type 0} → Result (OpenStore D × PrState) (StoreRefused D) → List ℕ → Type 0
Recovers (Ok opened) image = OpensAs opened.0.heading opened.1 image
Recovers (Err refused) image =
    (heading : Heading) (state : PrState) → OpensAs heading state image → IsNotOfBytes refused.error

-- why a store is not made: memory ran out and the disk was not touched, or a fault (own)
abbrev pub IsStoreNotMade : StoreError → Type 0 → (DevFault → Type 0) → Type 0
IsStoreNotMade NoMemory memory device = memory
IsStoreNotMade (Device fault) memory device = device fault
IsStoreNotMade NotOurs memory device = ⊥
IsStoreNotMade (Damaged at) memory device = ⊥
IsStoreNotMade (BadRecord at) memory device = ⊥

-- Why a store is not opened: what the old bytes are; a fault; or memory ran out, over bytes that begin as a store.
-- Except for a fault, no call failed and the disk's bytes are sure (own).
abbrev pub IsStoreNotOpened : StoreError → DiskState → DiskState → Type 0
IsStoreNotOpened NotOurs old new = NoneFailed old new × (old.honest → IsNoStore old.seen × Only old.seen new.may_leave)
IsStoreNotOpened (Damaged at) old new =
    NoneFailed old new × (old.honest → IsDamagedOf Store old.seen at × Only old.seen new.may_leave)
IsStoreNotOpened (BadRecord at) old new =
    NoneFailed old new × (old.honest → IsBadStateAt old.seen at × Only old.seen new.may_leave)
IsStoreNotOpened (Device fault) old new = IsFault fault old new
IsStoreNotOpened NoMemory old new =
    NoneFailed old new × (old.honest → BeginsAs Store old.seen × Only old.seen new.may_leave)
