use Rattle.std.proofs.Common.{◌≡◌, ◌≤◌, ◌++◌, length, take}
use Rattle.answer_notes.specs.Queues.{lines_of_host}
use Rattle.answer_notes.proofs.queues.add_host.Given as goal

-- the lines of the host so far are there
abbrev pub invariant-loop-asked : goal.invariant-loop-asked
invariant-loop-asked l = (l.due.items ≡ l.fn.due.items ++ lines_of_host l.host (take l.asked-index l.phase))
    × (length l.fn.due.items ≤ length l.due.items)
