-- The reply to a host's command at a drive that threads share, and by how much the host's seat grows.
use Rattle.std.specs.Prelude.{◌≡◌, ◌⊎◌, ◌+◌, ℕ, List, length, Option, None, Some}
use Rattle.tape_disk.specs.Disk.{DiskState}
use Rattle.library.specs.Seats.{SeatState}
use Rattle.scsi_sense.specs.declared.replies.Reply.{Reply}
use Rattle.volume_core.specs.declared.changes.Change.{Change}
use Rattle.aptpl_store.specs.Kept.{store_kept}
use Rattle.bay_moves.specs.Bays.{SavesIn}
use Rattle.drive_commands.specs.State.{machine_of}
use Rattle.drive_commands.specs.Synchronize.{Acknowledges, IsSynchronizing}
use Rattle.drive_commands.specs.ShownChanges.{IsChanging, ShowsWriteError}
use Rattle.drive_commands.specs.Work.{Request}
use Rattle.split_bay.specs.Backs.{BackState}
use Rattle.split_bay.specs.Fronts.{AnswersHalf, AnswersOrWaits, FrontState, KeepsHostsHalf, LeavesOrders}
use Rattle.split_bay.specs.Halves.{ExecutesBoth}
use Rattle.tape_buffer.specs.State.{state_of}

-- A seat grows as the reply to its host's command says. An acknowledged WRITE of at least one byte, WRITE FILEMARKS of
-- at least one, or ERASE adds one; a write error adds one or nothing; every other reply adds nothing (own).
pub record GrowsAsShown (cdb : List ℕ) (reply : Reply) (before after : ℕ) : Type 0 where
  pub few : (after ≡ before) ⊎ (after ≡ before + 1)
  pub one : IsChanging cdb → Acknowledges reply → after ≡ before + 1
  pub none : (IsChanging cdb → Acknowledges reply → ⊥) → (ShowsWriteError reply → ⊥) → after ≡ before
  pub other : (IsChanging cdb → ⊥) → after ≡ before

-- The seat of the host that gave a command has one more command answered, and no move was made by it. It grows by one
-- for each change that a drive accepted with the command, as the reply says (own).
pub record SeatGrows (request : Request) (before : SeatState) (reply : Reply) (made : List Change) (after : SeatState)
    : Type 0 where
  pub host : request.nexus ≡ before.nexus
  pub nexus : after.nexus ≡ before.nexus
  pub answered : after.answered ≡ before.answered + 1
  pub moved : after.moved ≡ before.moved
  pub grown : after.amount ≡ before.amount + length made
  pub reported : GrowsAsShown request.cdb reply before.amount after.amount

module _ {D : Type 0} (state : D → DiskState) where
  -- The hosts' half of a drive answers a host, without the disk's half. What its type keeps holds before and after, and
  -- at each moment inside the command a crash leaves of the reservations what the command's event says. An order is
  -- saved by the steps of one event. No synchronizing command is acknowledged by this half alone (own).
  pub record AnswersFront
      (old : FrontState D) (request : Request) (reply : Reply) (made : List Change) (new : FrontState D) (left : List ℕ)
      : Type 0 where
    pub answers : AnswersHalf state old request reply new left
    pub made_is : made ≡ answers.step.1.step.taken.made.changes
    pub waits :
        IsSynchronizing (machine_of (state_of state) store_kept old.drive) request.cdb → Acknowledges reply → ⊥
    pub moments : LeavesOrders state old.drive request (Some reply) new.drive
    pub saves : SavesIn state old.drive.keeper new.drive.keeper answers.step.1.step.taken.made.saved
    pub old_keeps : KeepsHostsHalf state old
    pub keeps : KeepsHostsHalf state new

  -- Both halves of a drive answer a host, as the drive that they are together, which keeps what its type keeps, before
  -- and after. Before the drive acknowledges a synchronizing command, all is stored, and all that its cartridge
  -- accepted is safe (own).
  pub record AnswersBoth
      (front : FrontState D) (back : BackState D) (request : Request) (reply : Reply) (made : List Change)
      (front' : FrontState D) (back' : BackState D) (left : List ℕ) : Type 0 where
    pub both : ExecutesBoth state front back request reply left front' back'
    pub made_is : made ≡ both.answers.step.step.taken.made.changes

  -- the hosts' half of some drive gives this answer (own)
  pub record IsAnsweredAlone (request : Request) (reply : Reply) (made : List Change) : Type 0 where
    pub old : FrontState D
    pub new : FrontState D
    pub left : List ℕ
    pub answers : AnswersFront old request reply made new left

  -- both halves of some drive give this answer (own)
  pub record IsAnsweredByBoth (request : Request) (reply : Reply) (made : List Change) : Type 0 where
    pub front : FrontState D
    pub back : BackState D
    pub front' : FrontState D
    pub back' : BackState D
    pub left : List ℕ
    pub answers : AnswersBoth front back request reply made front' back' left

  -- Some drive answers the host of a seat: by its hosts' half, or by both. These changes are made, for which the seat
  -- grows (own).
  pub record IsServed (request : Request) (before : SeatState) (reply : Reply) (after : SeatState) : Type 0 where
    pub made : List Change
    pub answered : IsAnsweredAlone request reply made ⊎ IsAnsweredByBoth request reply made
    pub grows : SeatGrows request before reply made after

  -- The hosts' half of a drive answers the host of a seat, or it needs the disk's half too, and then nothing has
  -- changed (own).
  abbrev pub ServesFront :
      FrontState D → Request → SeatState → Option Reply → FrontState D → List ℕ → SeatState → Type 0
  ServesFront old request before (Some reply) new left after =
      (made : List Change) × AnswersFront old request reply made new left × SeatGrows request before reply made after
  ServesFront old request before None new left after =
      AnswersOrWaits state old request None new left × (after ≡ before)

  -- both halves of a drive answer the host of a seat (own)
  pub record ServesHalves
      (front : FrontState D) (back : BackState D) (request : Request) (before : SeatState) (reply : Reply)
      (front' : FrontState D) (back' : BackState D) (left : List ℕ) (after : SeatState) : Type 0 where
    pub made : List Change
    pub answers : AnswersBoth front back request reply made front' back' left
    pub grows : SeatGrows request before reply made after

  -- the same of the hosts' half behind a lock (own)
  abbrev pub ServesAlone :
      Option (FrontState D) → Request → SeatState → Option Reply → Option (FrontState D) → List ℕ → SeatState → Type 0
  ServesAlone (Some old) request before reply (Some new) left after =
      ServesFront old request before reply new left after
  ServesAlone _ request before reply _ left after = ⊥

  -- the same of both halves behind their locks (own)
  abbrev pub ServesBoth :
      Option (FrontState D) → Option (BackState D) → Request → SeatState → Reply → Option (FrontState D)
      → Option (BackState D) → List ℕ → SeatState → Type 0
  ServesBoth (Some front) (Some back) request before reply (Some front') (Some back') left after =
      ServesHalves front back request before reply front' back' left after
  ServesBoth _ _ request before reply _ _ left after = ⊥
