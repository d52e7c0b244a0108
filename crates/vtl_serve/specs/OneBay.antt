-- A drive that one thread holds, and serves.
use Rattle.std.specs.Prelude.{◌≡◌, ℕ, ◌==◌, Bool, true, false, List, [], ◌∷◌, Option, Result, IfSome, map}
use Rattle.std.specs.List.{All}
use Rattle.std.specs.Io.KnownBytes.{Appends}
use Rattle.tape_disk.specs.Disk.{DiskState}
use Rattle.scsi_sense.specs.declared.replies.Reply.{Reply}
use Rattle.drive_commands.specs.declared.faults.Fault.{Fault}
use Rattle.drive_commands.specs.Execute.{Answers, HonestIn, asked}
use Rattle.drive_commands.specs.Faults.{reply_of}
use Rattle.drive_commands.specs.Relations.{Made}
use Rattle.drive_commands.specs.Run.{Run}
use Rattle.drive_commands.specs.State.{machine_of, medium_in}
use Rattle.drive_commands.specs.Events.{Execute}
use Rattle.drive_commands.specs.Step.{Answered}
use Rattle.drive_commands.specs.Work.{Request as Asked}
use Rattle.tape_buffer.specs.Moves.{buffer_below}
use Rattle.tape_buffer.specs.State.{state_of}
use Rattle.aptpl_store.specs.Kept.{store_below, store_kept}
use Rattle.bay_moves.specs.Elements.{BayState}
use Rattle.vtl_wire.specs.declared.answers.Answer.{Answer}
use Rattle.vtl_wire.specs.declared.answers.Answer.TheVariants as answer
use Rattle.vtl_wire.specs.declared.requests.Request.{Request}
use Rattle.vtl_wire.specs.declared.requests.Request.TheVariants.{Command, Move, Inventory}
use Rattle.vtl_wire.specs.Requests.{SpellsRequests}
use Rattle.vtl_wire.specs.Serving.{spell_answers}

-- a drive, and the number by which requests name it (own)
pub record OneBayState (D : Type 0) : Type 0 where
  pub number : ℕ
  pub bay : BayState D

-- a request is a command to the drive of this number (own)
abbrev pub is_for : ℕ → Request → Bool
is_for number (Command host drive cdb sent tag) = drive == number
is_for number (Move from to tag) = false
is_for number (Inventory tag) = false

-- what commands ask of a drive, in their order: to carry the command block out, for its host, with the bytes that it
-- sends (own)
abbrev pub all_asked : List Request → List Asked
all_asked [] = []
all_asked (Command host drive cdb sent tag ∷ requests) = asked host cdb sent ∷ all_asked requests
all_asked (Move from to tag ∷ requests) = all_asked requests
all_asked (Inventory tag ∷ requests) = all_asked requests

-- replies to commands, each as the answer to its command, with its host and its tag (own)
abbrev pub answers_with : List Request → List Reply → List Answer
answers_with (Command host drive cdb sent tag ∷ requests) (reply ∷ replies) =
    answer.Command host reply tag ∷ answers_with requests replies
answers_with _ _ = []

module _ {D : Type 0} (state : D → DiskState) where
  -- a command is answered by the drive, with its host and its tag (own)
  abbrev pub AnswersOf : OneBayState D → Request → Answer → OneBayState D → Type 0
  AnswersOf old (Command host drive cdb sent tag) answered new =
      (reply : Reply) × (answered ≡ answer.Command host reply tag) × (new.number ≡ old.number)
      × Answers (state_of state) (buffer_below state) store_kept (store_below state) old.bay (asked host cdb sent)
      reply new.bay
  AnswersOf old (Move from to tag) answered new = ⊥
  AnswersOf old (Inventory tag) answered new = ⊥

  -- An input that was read to its end by a drive: it spells these requests, each of them a command to this drive. The
  -- drive answered them, in their order, by a run of its machine, and the frames of these answers were written, in this
  -- order, and nothing else (own).
  pub record BayAnswers
      (old : OneBayState D) (left before : Option (List ℕ)) (new : OneBayState D) (now : Option (List ℕ)) : Type
      0 where
    pub requests : List Request
    pub commands : All (λ request. is_for old.number request ≡ true) requests
    pub spelled : IfSome left (λ bytes. SpellsRequests bytes requests)
    pub answers : List (Result Reply Fault)
    pub made : Made
    pub run :
        Run (HonestIn (buffer_below state) (medium_in old.bay.bay)) (machine_of (state_of state) store_kept old.bay)
        (map Execute (all_asked requests)) (map Answered answers) made (machine_of (state_of state) store_kept new.bay)
    pub written : Appends before now (spell_answers (answers_with requests (map reply_of answers)))
