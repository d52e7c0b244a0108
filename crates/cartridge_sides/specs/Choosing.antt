-- The result of choosing the side of a pair that counts.
use Rattle.std.specs.Prelude.{◌≡◌, ◌⊎◌, ℕ, List, Option, None, Some, Result, Ok, Err}
use Rattle.vtl_base.specs.declared.faults.DevFault.{DevFault}
use Rattle.tape_disk.specs.Disk.{DiskCall, DiskState, Only, SyncAll}
use Rattle.gate_journal.specs.Answers.{IsFault, NoneFailed}
use Rattle.gate_journal.specs.Heads.{Head, IsParsedHead}
use Rattle.gate_journal.specs.Reads.{OnlyOpenings}
use Rattle.cartridge_sides.specs.declared.choosing.Counted.{Counted}
use Rattle.cartridge_sides.specs.Pairs.{SideCounts, IsNoPair}

-- the side that counts, and what is read from its head; None where none counts (own)
abbrev pub Chooses : List ℕ → List ℕ → Option Counted → Type 0
Chooses first second (Some counted) =
    (head : Head) × (rest : List ℕ) × SideCounts counted.which head rest first second × IsParsedHead counted.head head
Chooses first second None = IsNoPair first second

-- a fault of one disk, while no call of the other failed (own)
abbrev pub IsFaultOfOne : DevFault → DiskState → DiskState → DiskState → DiskState → Type 0
IsFaultOfOne fault first_old first_new second_old second_new =
    (IsFault fault first_old first_new × NoneFailed second_old second_new)
    ⊎ (NoneFailed first_old first_new × IsFault fault second_old second_new)

-- The side that counts, by the bytes of the two disks, which are then sure; None where none counts; or a fault (own).
abbrev pub FindsCounted : Result (Option Counted) DevFault → DiskState → DiskState → DiskState → DiskState → Type 0
FindsCounted (Ok found) first_old first_new second_old second_new =
    NoneFailed first_old first_new × NoneFailed second_old second_new
    × (first_old.honest → Only first_old.seen first_new.may_leave)
    × (second_old.honest → Only second_old.seen second_new.may_leave)
    × (first_old.honest → second_old.honest → Chooses first_old.seen second_old.seen found)
FindsCounted (Err fault) first_old first_new second_old second_new =
    IsFaultOfOne fault first_old first_new second_old second_new

-- a fault comes from one of these two disks; at Ok no call of either failed (own)
abbrev pub FaultsOfOne : Result Unit DevFault → DiskState → DiskState → DiskState → DiskState → Type 0
FaultsOfOne (Ok done) first_old first_new second_old second_new =
    NoneFailed first_old first_new × NoneFailed second_old second_new
FaultsOfOne (Err fault) first_old first_new second_old second_new =
    IsFaultOfOne fault first_old first_new second_old second_new

module _ {D : Type 0} (effect : DiskCall → Result Unit DevFault → D → D → Type 0) where
  -- the first call of the disk was a sync that returned Ok; behind it came only syncs and short reads (own)
  abbrev pub SyncedBefore : D → D → Type 0
  SyncedBefore old new = (mid : D) × effect SyncAll (Ok tt) old mid × OnlyOpenings effect mid new

  -- this fault of a sync was the last call of two disks: of the first one, or of the second one behind the sync of the
  -- first (own)
  abbrev pub SyncFailed : DevFault → D → D → D → D → Type 0
  SyncFailed fault first_old first_new second_old second_new =
      (effect SyncAll (Err fault) first_old first_new × (second_new ≡ second_old))
      ⊎ (effect SyncAll (Ok tt) first_old first_new × effect SyncAll (Err fault) second_old second_new)

  -- Both disks were synced before one was read: the result is the fault of a sync, the last call of both, or both syncs
  -- returned Ok, each as the first call of its disk (own).
  abbrev pub SyncsBoth : Result (Option Counted) DevFault → D → D → D → D → Type 0
  SyncsBoth (Ok found) first_old first_new second_old second_new =
      SyncedBefore first_old first_new × SyncedBefore second_old second_new
  SyncsBoth (Err fault) first_old first_new second_old second_new =
      SyncFailed fault first_old first_new second_old second_new
      ⊎ (SyncedBefore first_old first_new × SyncedBefore second_old second_new)
