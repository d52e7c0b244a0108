-- What is written of an explanation.
use Rattle.std.proofs.Common.{ℕ, true, List, length, Option, Result, Ok, Err, OnOk, OnErr, arith}
use Rattle.std.specs.Io.KnownBytes.{Appends}
use Rattle.std.proofs.lemmas.List.{take_all}
use Rattle.explanations.specs.Lines.{AreLines}
use Rattle.vtl_script.specs.Text.{AppendsPart}
use Rattle.vtl_program.specs.Explained.{Explains}

-- lines were written, or a beginning of them
pub explained : {E : Type 0} (result : Result (Unit {0}) E) (before now : Option (List ℕ)) (lines : List ℕ)
    → AreLines lines → OnOk result (Appends before now lines) → OnErr result (AppendsPart before now lines)
    → Explains true before now
explained (Ok done) before now lines are all part =
    (lines, are, (lines, take_all (length lines) lines (omega arith), all))
explained (Err fault) before now lines are all part = (lines, are, part)
