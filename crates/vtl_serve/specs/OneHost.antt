-- One host of a library that threads share, which is served.
use Rattle.std.specs.Prelude.{◌≡◌, ◌&&◌, ℕ, nat_eq, Bool, true, false, List, [], ◌∷◌, Option, IfSome}
use Rattle.std.specs.List.{All}
use Rattle.std.specs.Io.KnownBytes.{Appends}
use Rattle.tape_disk.specs.Disk.{DiskState}
use Rattle.library.specs.Seats.{SeatState}
use Rattle.scsi_sense.specs.declared.replies.Reply.{Reply}
use Rattle.drive_commands.specs.Execute.{asked}
use Rattle.library.specs.Counts.{has_drive}
use Rattle.library.specs.Served.{IsServed}
use Rattle.vtl_wire.specs.declared.answers.Answer.{Answer}
use Rattle.vtl_wire.specs.declared.answers.Answer.TheVariants as answer
use Rattle.vtl_wire.specs.declared.requests.Request.{Request}
use Rattle.vtl_wire.specs.declared.requests.Request.TheVariants.{Command, Move, Inventory}
use Rattle.vtl_wire.specs.Requests.{SpellsRequests}
use Rattle.vtl_wire.specs.Serving.{spell_answers}

-- a host at a library: whether there is a drive, by its number, and the host's seat (own)
pub record OneHostState : Type 0 where
  pub drives : List Bool
  pub seat : SeatState

-- a request is a command of this host to a drive that there is (own)
abbrev pub is_from : List Bool → ℕ → Request → Bool
is_from drives nexus (Command host drive cdb sent tag) = nat_eq host nexus && has_drive drives drive
is_from drives nexus (Move from to tag) = false
is_from drives nexus (Inventory tag) = false

module _ {D : Type 0} (state : D → DiskState) where
  -- a command is answered for the host of a seat, with its host and its tag (own)
  abbrev pub AnswersCommand : SeatState → Request → Answer → SeatState → Type 0
  AnswersCommand before (Command host drive cdb sent tag) answered after =
      (reply : Reply) × (answered ≡ answer.Command host reply tag)
      × IsServed state (asked host cdb sent) before reply after
  AnswersCommand before (Move from to tag) answered after = ⊥
  AnswersCommand before (Inventory tag) answered after = ⊥

  -- the same of a host at a library (own)
  pub record AnswersHost (old : OneHostState) (request : Request) (answered : Answer) (new : OneHostState) : Type
      0 where
    pub drives : new.drives ≡ old.drives
    pub command : AnswersCommand old.seat request answered new.seat

  -- commands are answered for the host of a seat one after another, and the seat grows with each (own)
  abbrev pub AnswersCommands : SeatState → List Request → List Answer → SeatState → Type 0
  AnswersCommands before [] [] after = after ≡ before
  AnswersCommands before (request ∷ requests) (answered ∷ answers) after =
      (mid : SeatState) × AnswersCommand before request answered mid × AnswersCommands mid requests answers after
  AnswersCommands before [] (answered ∷ answers) after = ⊥
  AnswersCommands before (request ∷ requests) [] after = ⊥

  -- An input of one host that was read to its end: it spells these requests, each of them a command of this host to a
  -- drive that there is. Each was answered for the host of the seat, in their order, and the frames of these answers
  -- were written, in this order, and nothing else (own).
  pub record HostAnswers (old new : OneHostState) (left written_before written : Option (List ℕ)) : Type 0 where
    pub requests : List Request
    pub commands : All (λ request. is_from old.drives old.seat.nexus request ≡ true) requests
    pub spelled : IfSome left (λ bytes. SpellsRequests bytes requests)
    pub answers : List Answer
    pub answered : AnswersCommands old.seat requests answers new.seat
    pub appended : Appends written_before written (spell_answers answers)
