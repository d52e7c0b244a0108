use Rattle.std.proofs.Common.{arith}
use Rattle.positioning.proofs.EndLemmas.{walk_back_to_mark, walk_back_of_all, walk_back_to_start}
use Rattle.positioning.proofs.motions.blocks_backward.Goals as goal

pub returns-then-walk-eq0-clause-moves : goal.returns-then-walk-eq0-clause-moves
returns-then-walk-eq0-clause-moves g c =
    walk_back_to_mark _ _ _ _ _ _ _ _ _ c.backward-walk.ensures c.requires.on_tape.object (omega arith) (omega arith)
    c.if-walk-eq0.true c.moved.ensures.obj c.moved.ensures.stop c.moved.ensures.left

pub returns-then-most-count-clause-moves : goal.returns-then-most-count-clause-moves
returns-then-most-count-clause-moves g c =
    walk_back_of_all _ _ _ _ _ _ _ _ _ c.backward-walk.ensures c.requires.on_tape.object (omega arith)
    c.if-walk-eq0.false c.if-most-count.true
    c.moved-then-most-count.ensures.obj c.moved-then-most-count.ensures.stop c.moved-then-most-count.ensures.left

pub returns-else-most-count-clause-moves : goal.returns-else-most-count-clause-moves
returns-else-most-count-clause-moves g c =
    walk_back_to_start _ _ _ _ _ _ _ _ _ c.backward-walk.ensures c.requires.on_tape.object (omega arith)
    c.if-walk-eq0.false (omega arith)
    c.moved-else-most-count.ensures.obj c.moved-else-most-count.ensures.stop c.moved-else-most-count.ensures.left
