use Rattle.std.proofs.Common.{◌≡◌, ◌≤◌, ℕ, get_or, map, take, length, vec_len, vec_capacity}
use Rattle.vtl_script.specs.declared.lines.Line.{Line}
use Rattle.bay_moves.specs.Runs.{line_event}
use Rattle.library_scripts.specs.Crews.{AnswersAllAmong}
use Rattle.library_scripts.specs.Inner.InPlace.{AreInPlace}
use Rattle.library_scripts.specs.Inner.Jobs.{seats_of}
use Rattle.library_scripts.proofs.phases.serve_in_turn.Given as goal

-- the lines so far were answered, there is room for all replies, the seats are in their places, and the other lines
-- still have their data
abbrev pub invariant-loop-line : goal.invariant-loop-line
invariant-loop-line g l = record {
  answered :
      AnswersAllAmong g.D.Disk.state l.library (seats_of l.fn.jobs) (map line_event (take l.line-index l.fn.lines))
      l.replies.items (seats_of l.jobs);
  counted : vec_len l.replies ≡ l.line-index;
  room : length l.fn.lines ≤ vec_capacity l.replies;
  places : AreInPlace (seats_of l.jobs);
  left : (k : ℕ) (d : Line) → l.line-index ≤ k → get_or l.line-items k d ≡ get_or l.fn.lines k d;
}
