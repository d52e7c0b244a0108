-- What is written of an answer.
use Rattle.std.specs.Prelude.{ℕ, ◌⊎◌, List, [], ◌∷◌, ◌++◌, Option}
use Rattle.std.specs.Io.KnownBytes.{Keeps}
use Rattle.answer_meanings.specs.AnswerLines.{line_text}
use Rattle.answer_meanings.specs.declared.answer_lines.AnswerLine.{AnswerLine}
use Rattle.vtl_script.specs.Text.{AppendsPart}
use Rattle.answer_notes.specs.Causes.{IsMeaning}

-- what an answer means is written as a line, or a beginning of it (own)
abbrev pub WritesMeaning : AnswerLine → (before now : Option (List ℕ)) → Type 0
WritesMeaning line before now = AppendsPart before now (line_text line ++ 10 ∷ [])

-- nothing is written, or a meaning that stands in the answer (own)
abbrev pub ExplainsAnswer : List ℕ → (before now : Option (List ℕ)) → Type 0
ExplainsAnswer answer before now =
    Keeps before now ⊎ ((line : AnswerLine) × IsMeaning answer line × WritesMeaning line before now)
