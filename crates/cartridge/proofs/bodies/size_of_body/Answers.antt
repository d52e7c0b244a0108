use Rattle.std.proofs.Common.{arith}
use Rattle.cartridge.proofs.RecordLemmas.{frame_of_one, part_fits}
use Rattle.cartridge.proofs.bodies.size_of_body.Goals as goal

pub overflow_cast-size : goal.overflow_cast-size
overflow_cast-size c = omega (
  arith,
  c.frame_size.ensures,
  frame_of_one c.change-item.result,
  part_fits c.args.changes.now c.loop-change.change-index c.change-item.result c.loop-change-test.true c.change-item.is,
  c.requires,
)

pub overflow_add-size : goal.overflow_add-size
overflow_add-size c = omega (
  arith,
  c.frame_size.ensures,
  frame_of_one c.change-item.result,
  part_fits c.args.changes.now c.loop-change.change-index c.change-item.result c.loop-change-test.true c.change-item.is,
  c.loop-change.invariant,
  c.requires,
)
