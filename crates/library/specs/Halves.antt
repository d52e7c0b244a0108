-- The two halves of a drive, each behind a lock of its own.
use Rattle.std.specs.Prelude.{◌≡◌, ℕ, Option, None, Some, Result}
use Rattle.tape_disk.specs.Disk.{DiskState}
use Rattle.volume_core.specs.declared.media.MediumError.{MediumError}
use Rattle.volume_core.specs.declared.media.Turn.{Turn}
use Rattle.bay_moves.specs.Elements.{BayState}
use Rattle.split_bay.specs.Backs.{BackState, KeepsDiskHalf, TurnsBack, works_in}
use Rattle.split_bay.specs.Fronts.{FrontState, KeepsHostsHalf}
use Rattle.split_bay.specs.Halves.{Joins, MakesRoom, Parts, ReportsBoth, is_unreported}
use Rattle.split_bay.specs.Rings.{SendingState}
use Rattle.library.specs.Keeps.{IsLeftBy}

module _ {D : Type 0} where
  -- the hosts' half is there, and the share of its drive is the count of what the drive accepted (own)
  abbrev pub HasShare : Option (FrontState D) → ℕ → Type 0
  HasShare None share = ⊥
  HasShare (Some front) share = share ≡ front.drive.accepted

  -- how many changes the drive accepted of which this is the hosts' half (own)
  abbrev pub IsAccepted : Option (FrontState D) → ℕ → Type 0
  IsAccepted None count = ⊥
  IsAccepted (Some front) count = count ≡ front.drive.accepted

module _ {D : Type 0} (state : D → DiskState) where
  -- the halves behind two locks are put together into this drive (own)
  abbrev pub JoinsHeld : Option (FrontState D) → Option (BackState D) → BayState D → SendingState → Type 0
  JoinsHeld (Some front) (Some back) bay ends = Joins state front back bay ends
  JoinsHeld _ _ bay ends = ⊥

  -- a drive parts into the halves behind two locks (own)
  abbrev pub PartsHeld : BayState D → SendingState → Option (FrontState D) → Option (BackState D) → Type 0
  PartsHeld bay ends (Some front) (Some back) = Parts state bay ends front back
  PartsHeld bay ends _ _ = ⊥

  -- The halves behind two locks are put together, something is done with the drive, and it parts again (own).
  pub record HoldsBoth
      (front : Option (FrontState D)) (back : Option (BackState D)) (bay bay' : BayState D)
      (front' : Option (FrontState D)) (back' : Option (BackState D)) : Type 0 where
    pub ends : SendingState
    pub joins : JoinsHeld front back bay ends
    pub parts : PartsHeld bay' ends front' back'

  -- The disk's half behind a lock takes a flusher's turn. What its type keeps holds before and after (own).
  abbrev pub TurnsHeld : Option (BackState D) → Turn → Option (BackState D) → Type 0
  TurnsHeld (Some old) turn (Some new) =
      KeepsDiskHalf state old × TurnsBack state (works_in state old.medium) old turn new × KeepsDiskHalf state new
  TurnsHeld _ turn _ = ⊥

  -- what the types of both halves keep (own)
  pub record KeepsEach (front : FrontState D) (back : BackState D) : Type 0 where
    pub front_keeps : KeepsHostsHalf state front
    pub back_keeps : KeepsDiskHalf state back

  -- A fault of the disk's half behind a lock is reported to hosts, if there is one that was not. What the types of both
  -- halves keep holds before and after (own).
  abbrev pub ReportsHeld :
      Option (FrontState D) → Option (BackState D) → Option (FrontState D) → Option (BackState D) → Type 0
  ReportsHeld (Some front) (Some back) (Some front') (Some back') =
      KeepsEach front back × ReportsBoth state (is_unreported state front back) front back front' back'
      × KeepsEach front' back'
  ReportsHeld _ _ _ _ = ⊥

  -- Room is made with the halves behind two locks, so that hosts may send more, or it is lacking. What the types of
  -- both halves keep holds before and after (own).
  abbrev pub RenewsHeld :
      Option (FrontState D) → Option (BackState D) → Result Unit MediumError → Option (FrontState D)
      → Option (BackState D) → Type 0
  RenewsHeld (Some front) (Some back) result (Some front') (Some back') =
      MakesRoom state front back result front' back' × KeepsEach front' back'
  RenewsHeld _ _ result _ _ = ⊥

  -- The halves behind two locks are put together at the end, and the drive takes a turn (own).
  pub record EndsHeld
      (front : Option (FrontState D)) (back : Option (BackState D)) (bay : BayState D) : Type 0 where
    pub joined : BayState D
    pub ends : SendingState
    pub joins : JoinsHeld front back joined ends
    pub left : IsLeftBy state joined bay
