-- What is written of an answer.
use Rattle.std.proofs.Common.{ℕ, List, length, Option, Result, Ok, Err, OnOk, OnErr, arith}
use Rattle.std.specs.Io.KnownBytes.{Appends}
use Rattle.std.proofs.lemmas.List.{take_all}
use Rattle.vtl_script.specs.Text.{AppendsPart}

-- a text was written, or a beginning of it
pub written_part : {E : Type 0} (result : Result (Unit {0}) E) (before now : Option (List ℕ)) (text : List ℕ)
    → OnOk result (Appends before now text) → OnErr result (AppendsPart before now text)
    → AppendsPart before now text
written_part (Ok done) before now text all part = (text, take_all (length text) text (omega arith), all)
written_part (Err fault) before now text all part = part
