use Rattle.std.proofs.Common.{◌≡◌, ◌≤◌, ℕ, [], ◌∷◌, get_or, take, length, vec_len, vec_capacity}
use Rattle.vtl_script.specs.declared.items.Item.TheVariants.{Phase}
use Rattle.vtl_script.specs.declared.lines.Line.{Line}
use Rattle.bay_moves.specs.Moves.{KeepsBays}
use Rattle.bay_moves.specs.Runs.{LibraryAnswers}
use Rattle.bay_moves.proofs.held.Held.run_lines.Given as goal

-- the lines so far were run and answered, there is room for all answers, the same drives are configured, and the other
-- lines still have their data
abbrev pub invariant-loop-line : goal.invariant-loop-line
invariant-loop-line g l =
    LibraryAnswers g.D.Disk.state l.fn.self (Phase (take l.line-index l.fn.lines) ∷ []) l.replies.items l.self
    × (vec_len l.replies ≡ l.line-index) × (length l.fn.lines ≤ vec_capacity l.replies) × KeepsBays l.fn.self l.self
    × ((k : ℕ) (d : Line) → l.line-index ≤ k → get_or l.line-items k d ≡ get_or l.fn.lines k d)
