-- Scripts of at most one host, without moves (own).
use Rattle.std.specs.Prelude.{◌≡◌, ◌≢◌, ℕ, ◌==◌, if◌then◌else◌, List, [], ◌∷◌, All, filter, length, map, Option, Some, Result, Ok, IfSome}
use Rattle.std.specs.Io.KnownBytes.{Appends}
use Rattle.tape_disk.specs.Disk.{DiskState}
use Rattle.scsi_sense.specs.declared.replies.Reply.{Reply}
use Rattle.drive_commands.specs.declared.faults.Fault.{Fault}
use Rattle.drive_commands.specs.Faults.{reply_of}
use Rattle.drive_commands.specs.State.{Machine, machine_of, medium_in}
use Rattle.drive_commands.specs.Execute.{HonestIn}
use Rattle.drive_commands.specs.Relations.{Made}
use Rattle.drive_commands.specs.Events.{Event, Execute, OfDrive}
use Rattle.drive_commands.specs.Step.{Output, Answered, replies_of}
use Rattle.drive_commands.specs.Run.{Run}
use Rattle.drive_commands.specs.Determined.{IsCalm, IsSureDrive, seen_of, without_turns}
use Rattle.drive_commands.specs.Work.{Request}
use Rattle.tape_buffer.specs.Moves.{buffer_below}
use Rattle.tape_buffer.specs.State.{state_of}
use Rattle.aptpl_store.specs.Kept.{store_kept}
use Rattle.vtl_script.specs.declared.lines.Line.{Line}
use Rattle.vtl_script.specs.InOrder.{commands_in, IsOfHostAlone}
use Rattle.vtl_script.specs.Parsed.{parsed_lines}
use Rattle.vtl_script.specs.Text.{text_of}
use Rattle.bay_moves.specs.Elements.{BayState, HeldState, bay_at}
use Rattle.bay_moves.specs.Runs.{is_configured_in, line_request}

-- the requests of some lines to the drive of this number, in order (own)
abbrev pub requests_at : ℕ → List Line → List Request
requests_at number lines = map line_request (filter (λ line. line.drive == number) lines)

-- of the values that belong to some lines, one by one, those of the lines of this drive (own)
abbrev pub beside : {A : Type 0} → ℕ → List Line → List A → List A
beside number (line ∷ lines) (value ∷ values) =
    if line.drive == number then value ∷ beside number lines values else beside number lines values
beside number _ _ = []

module _ {D : Type 0} (state : D → DiskState) where
  -- a drive, as a machine (own)
  abbrev pub machine_in : BayState D → Machine
  machine_in bay = machine_of (state_of state) store_kept bay

  -- the medium in a drive, if there is one, is honest (own)
  abbrev pub IsHonestBay : BayState D → Type 0
  IsHonestBay bay = HonestIn (buffer_below state) (medium_in bay.bay)

  -- these requests to a drive have these answers in a run of its machine, whose end is the drive of this number now
  -- (own)
  pub record RunsTo
      (number : ℕ) (requests : List Request) (answers : List (Result Reply Fault)) (old : BayState D)
      (held : HeldState D) : Type 0 where
    pub left : BayState D
    pub is : bay_at held.bays number ≡ Some left
    pub made : Made
    pub run :
        Run (IsHonestBay old) (machine_in old) (map Execute requests) (map Answered answers) made (machine_in left)

  -- A run of a drive's machine over these requests, with flusher's turns anywhere between, may give these replies: no
  -- fault came, no side was full, and memory did not run out (own).
  pub record MayReply (requests : List Request) (replies : List Reply) (old : BayState D) : Type 0 where
    pub events : List (Event OfDrive)
    pub outputs : List Output
    pub made : Made
    pub end : Machine
    pub asked : without_turns events ≡ map Execute requests
    pub calm : All IsCalm outputs
    pub run : Run (Unit {0}) (machine_in old) events outputs made end
    pub replied : replies ≡ replies_of outputs

  -- Each drive answered its own lines, in order, by a run of its machine, and exactly the text of all answers was
  -- written, in the order of the lines. Suppose that the media are honest, that what their sides give is sure, and that
  -- no answer is a fault, out of memory or a full side. Then all replies that the drives may give to their lines in
  -- this way have the same text (own).
  pub record AnswersLines
      (lines : List Line) (old : HeldState D) (before : Option (List ℕ)) (new : HeldState D)
      (now : Option (List ℕ)) : Type 0 where
    pub answers : List (Result Reply Fault)
    pub count : length answers ≡ length lines
    pub written : Appends before now (text_of (map reply_of answers))
    pub runs :
        (number : ℕ) (bay : BayState D) → bay_at old.bays number ≡ Some bay
        → RunsTo number (requests_at number lines) (beside number lines answers) bay new
    pub sole :
        (silent others : List Reply) → answers ≡ map Ok silent → length others ≡ length lines
        → ((number : ℕ) (bay : BayState D) → bay_at old.bays number ≡ Some bay → requests_at number lines ≢ []
        → IsHonestBay bay × IsSureDrive (seen_of (machine_in bay))
        × MayReply (requests_at number lines) (beside number lines others) bay)
        → Appends before now (text_of others)

  -- a script that a library ran to its end: where it has one host and no moves, its commands were answered in the order
  -- of the lines (own)
  pub record LibraryAnswersHost
      (old : HeldState D) (left before : Option (List ℕ)) (new : HeldState D) (now : Option (List ℕ)) : Type
      0 where
    -- the text of the script: all that the reader has, where that is known
    pub text : List ℕ
    pub known : IfSome left (λ all. text ≡ all)
    pub answered :
        (host : ℕ) → IsOfHostAlone host (parsed_lines (is_configured_in old) text)
        → AnswersLines (commands_in (parsed_lines (is_configured_in old) text)) old before new now
