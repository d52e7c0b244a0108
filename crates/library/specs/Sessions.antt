-- The lines of a host in a phase.
use Rattle.std.specs.Prelude.{◌≡◌, List, [], ◌∷◌}
use Rattle.tape_disk.specs.Disk.{DiskState}
use Rattle.library.specs.Seats.{SeatState}
use Rattle.scsi_sense.specs.declared.replies.Reply.{Reply}
use Rattle.vtl_script.specs.declared.lines.Line.{Line}
use Rattle.bay_moves.specs.Runs.{line_request}
use Rattle.library.specs.Served.{IsServed}

module _ {D : Type 0} (state : D → DiskState) where
  -- each line is answered for the host of a seat, one after another, and the seat grows with each (own)
  abbrev pub AnswersSession : SeatState → List Line → List Reply → SeatState → Type 0
  AnswersSession before [] [] after = after ≡ before
  AnswersSession before (line ∷ lines) (reply ∷ replies) after =
      (mid : SeatState) × IsServed state (line_request line) before reply mid × AnswersSession mid lines replies after
  AnswersSession before [] (reply ∷ replies) after = ⊥
  AnswersSession before (line ∷ lines) [] after = ⊥
