-- The program with the lines that explain a fault (own).
use Rattle.std.specs.Prelude.{ℕ, Bool, true, false, ◌&&◌, List, Option, Result, Ok, Err}
use Rattle.std.specs.Io.KnownBytes.{Keeps}
use Rattle.explanations.specs.Lines.{AreLines}
use Rattle.vtl_base.specs.declared.faults.DevFault.{DevFault}
use Rattle.tape_disk.specs.Disk.{DiskCall, DiskState}
use Rattle.vtl_script.specs.Text.{AppendsPart}
use Rattle.vtl_words.specs.Explaining.{asks_to_explain}
use Rattle.vtl_program.specs.Files.{FileAnswers}
use Rattle.vtl_program.specs.Orders.{RunsProgram}
use Rattle.vtl_faults.specs.declared.endings.Ended.{Ended}
use Rattle.vtl_faults.specs.declared.faults.VtlFault.{VtlFault}

-- the words that the system gave ask for an explanation; words that it did not give do not (own)
abbrev pub asks : Result (List (List ℕ)) VtlFault → Bool
asks (Ok words) = asks_to_explain words
asks (Err fault) = false

-- lines of at most 120 columns were written, or a beginning of them, and none where none are asked for (own)
abbrev pub Explains : Bool → (before now : Option (List ℕ)) → Type 0
Explains false before now = Keeps before now
Explains true before now = (lines : List ℕ) × AreLines lines × AppendsPart before now lines

-- The whole program runs as it does without an explanation: its files, its output, its status and the line of its fault
-- are the same. Behind that line, on standard error alone, stand the lines that explain it, where they are asked for
-- and that line was written (own).
pub record RunsExplained {D : Type 0} (state : D → DiskState)
    (effect : DiskCall → Result Unit DevFault → D → D → Type 0) (files : FileAnswers D)
    (words : Result (List (List ℕ)) VtlFault) (left left' before now errors errors' : Option (List ℕ))
    (ended : Ended) : Type 0 where
  pub reported : Option (List ℕ)
  pub runs : RunsProgram state effect files words left left' before now errors reported ended
  pub explains : Explains (asks words && ended.is_reported) reported errors'
