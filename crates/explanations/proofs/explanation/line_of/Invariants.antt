use Rattle.std.proofs.Common.{◌≡◌, map, take, string_bytes}
use Rattle.explanations.specs.Lines.{shown}
use Rattle.explanations.proofs.explanation.line_of.Given as goal

abbrev pub invariant-loop-place : goal.invariant-loop-place
invariant-loop-place l = string_bytes l.line ≡ map shown (take l.place l.text)
