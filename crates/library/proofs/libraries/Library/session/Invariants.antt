use Rattle.std.proofs.Common.{◌≡◌, ◌≤◌, ℕ, get_or, take, length, vec_len, vec_capacity}
use Rattle.vtl_script.specs.declared.lines.Line.{Line}
use Rattle.library.specs.Sessions.{AnswersSession}
use Rattle.library.proofs.libraries.Library.session.Given as goal

-- the lines so far were answered, there is room for all replies, and the other lines still have their data
abbrev pub invariant-loop-line : goal.invariant-loop-line
invariant-loop-line g l =
    AnswersSession g.D.Disk.state l.fn.seat (take l.line-index l.fn.lines) l.replies.items l.seat
    × (vec_len l.replies ≡ l.line-index) × (length l.fn.lines ≤ vec_capacity l.replies)
    × ((k : ℕ) (d : Line) → l.line-index ≤ k → get_or l.line-items k d ≡ get_or l.fn.lines k d)
