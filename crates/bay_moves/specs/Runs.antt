-- The events that a script's items ask of a library (own).
use Rattle.std.specs.Prelude.{◌≡◌, ℕ, List, [], ◌∷◌, Bool, is_some, map, flat_map}
use Rattle.tape_disk.specs.Disk.{DiskState}
use Rattle.scsi_sense.specs.declared.replies.Reply.{Reply}
use Rattle.drive_commands.specs.Events.{Carry, Event, Execute, InDrive, OfLibrary}
use Rattle.drive_commands.specs.Execute.{asked}
use Rattle.drive_commands.specs.Work.{Request}
use Rattle.vtl_script.specs.declared.lines.Line.{Line}
use Rattle.vtl_script.specs.declared.items.Item.{Item}
use Rattle.vtl_script.specs.declared.items.Item.TheVariants.{Phase, Move}
use Rattle.bay_moves.specs.Commands.{Commands}
use Rattle.bay_moves.specs.Elements.{HeldState, bay_at}
use Rattle.bay_moves.specs.Moves.{KeepsCartridges, MovesMedium}

-- the request of a line to its drive: its command block, for its host, with the bytes that it sends (own)
abbrev pub line_request : Line → Request
line_request line = asked line.host line.cdb line.sent

-- the event that a line asks for: its drive carries its command out (own)
abbrev pub line_event : Line → Event OfLibrary
line_event line = InDrive line.drive (Execute (line_request line))

-- the events that an item asks for, in turn (own)
abbrev pub events_of : Item → List (Event OfLibrary)
events_of (Phase lines) = map line_event lines
events_of (Move from to) = Carry from to ∷ []

-- there is a drive of this number (own)
abbrev pub is_configured_in : {D : Type 0} → HeldState D → ℕ → Bool
is_configured_in held number = is_some (bay_at held.bays number)

module _ {D : Type 0} (state : D → DiskState) where
  -- what a library was asked is answered: a command by the drive with that number, a move as MOVE MEDIUM is (SMC-3,
  -- MOVE MEDIUM; the rest own)
  abbrev pub AnswersEvent : HeldState D → Event OfLibrary → Reply → HeldState D → Type 0
  AnswersEvent old (InDrive number (Execute request)) reply new = Commands state number request old reply new
  AnswersEvent old (Carry from to) reply new =
      MovesMedium state old from to reply new × KeepsCartridges state old from to reply new
  AnswersEvent old _ reply new = ⊥

  -- such events, one after another, each answered by the library that the last one left (own)
  abbrev pub AnswersEvents : HeldState D → List (Event OfLibrary) → List Reply → HeldState D → Type 0
  AnswersEvents old [] [] new = new ≡ old
  AnswersEvents old (event ∷ events) (reply ∷ replies) new =
      (mid : HeldState D) × AnswersEvent old event reply mid × AnswersEvents mid events replies new
  AnswersEvents old [] (reply ∷ replies) new = ⊥
  AnswersEvents old (event ∷ events) [] new = ⊥

  -- a library answers these items with these replies, one after another (own)
  abbrev pub LibraryAnswers : HeldState D → List Item → List Reply → HeldState D → Type 0
  LibraryAnswers old items replies new = AnswersEvents old (flat_map events_of items) replies new
