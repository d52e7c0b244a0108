use Rattle.std.proofs.Common.{arith}
use Rattle.answer_notes.proofs.QueueLemmas.{hosts_more}
use Rattle.answer_notes.proofs.queues.add_phase.Goals as goal

pub loop-place-preserved : goal.loop-place-preserved
loop-place-preserved c = (
  hosts_more c.args.phase.now c.loop-place.place c.args.due.now.items c.loop-place.due.items
      c.add_host.new.due.items c.loop-place.invariant.0 c.in_ok-add_host.ensures.added,
  omega (arith, c.loop-place.invariant.1, c.in_ok-add_host.ensures.longer),
)
