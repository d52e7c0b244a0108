use Rattle.std.proofs.Common.{◌≡◌, ◌≤◌, ◌++◌, length}
use Rattle.answer_notes.proofs.QueueLemmas.{of_hosts}
use Rattle.answer_notes.proofs.queues.add_phase.Given as goal

-- the lines of the hosts so far are there
abbrev pub invariant-loop-place : goal.invariant-loop-place
invariant-loop-place l = (l.due.items ≡ l.fn.due.items ++ of_hosts l.phase l.place)
    × (length l.fn.due.items ≤ length l.due.items)
