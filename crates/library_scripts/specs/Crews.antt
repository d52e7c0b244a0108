-- The replies to the hosts of a library whose drives threads share.
use Rattle.std.specs.Prelude.{◌≡◌, ◌+◌, ℕ, Bool, List, [], ◌∷◌, Some, flat_map, slice_get, slice_set, sum_by}
use Rattle.tape_disk.specs.Disk.{DiskState}
use Rattle.library.specs.Seats.{SeatState}
use Rattle.scsi_sense.specs.declared.replies.Reply.{Reply}
use Rattle.vtl_script.specs.declared.items.Item.{Item}
use Rattle.vtl_script.specs.declared.items.Item.TheVariants.{Phase, Move}
use Rattle.drive_commands.specs.Events.{Carry, Event, Execute, InDrive, OfLibrary}
use Rattle.drive_commands.specs.Work.{Request}
use Rattle.bay_moves.specs.Runs.{events_of}
use Rattle.library.specs.MovesAt.{IsMovedAmong}
use Rattle.library.specs.Served.{IsServed}

-- the hosts of a library and its operator: for each drive number whether there is a drive, the seat of each host, and
-- how many moves the operator made (own)
pub record CrewState : Type 0 where
  pub drives : List Bool
  pub seats : List SeatState
  pub moved : ℕ

-- how many moves an item of a script is: a `move` is one, a phase is none (own)
abbrev pub moves_of : Item → ℕ
moves_of (Phase lines) = 0
moves_of (Move from to) = 1

-- how many moves these items are (own)
abbrev pub moves_in : List Item → ℕ
moves_in items = sum_by moves_of items

module _ {D : Type 0} (state : D → DiskState) where
  -- A request is answered for its host, whose seat grows as the reply says. The other seats stay (own).
  pub record AnswersSeat
      (old : List SeatState) (request : Request) (reply : Reply) (new : List SeatState) : Type 0 where
    pub place : ℕ
    pub before : SeatState
    pub after : SeatState
    pub seat : slice_get old place ≡ Some before
    pub served : IsServed state request before reply after
    pub seats : new ≡ slice_set old place after

  -- what a library was asked is answered: a command for its host; a move as MOVE MEDIUM is among these drives, and each
  -- seat stays (SMC-3, MOVE MEDIUM; the rest own)
  abbrev pub AnswersAmong : List Bool → List SeatState → Event OfLibrary → Reply → List SeatState → Type 0
  AnswersAmong drives old (InDrive number (Execute request)) reply new = AnswersSeat old request reply new
  AnswersAmong drives old (Carry from to) reply new = IsMovedAmong state drives from to reply × (new ≡ old)
  AnswersAmong drives old _ reply new = ⊥

  -- such events, one after another, each answered with the seats that the last one left (own)
  abbrev pub AnswersAllAmong :
      List Bool → List SeatState → List (Event OfLibrary) → List Reply → List SeatState → Type 0
  AnswersAllAmong drives old [] [] new = new ≡ old
  AnswersAllAmong drives old (event ∷ events) (reply ∷ replies) new =
      (mid : List SeatState) × AnswersAmong drives old event reply mid × AnswersAllAmong drives mid events replies new
  AnswersAllAmong drives old [] (reply ∷ replies) new = ⊥
  AnswersAllAmong drives old (event ∷ events) [] new = ⊥

  -- The hosts of a library get these replies to these items, one after another. The operator made one move for each
  -- `move` among them, and nobody else made one. The same drives are configured (own).
  pub record AnswersCrew (old : CrewState) (items : List Item) (replies : List Reply) (new : CrewState) : Type 0 where
    pub drives : new.drives ≡ old.drives
    pub answered : AnswersAllAmong old.drives old.seats (flat_map events_of items) replies new.seats
    pub moved : new.moved ≡ old.moved + moves_in items
