use Rattle.std.proofs.Common.{arith}
use Rattle.positioning.proofs.EndLemmas.{walk_to_mark, walk_of_all, walk_to_end}
use Rattle.positioning.proofs.motions.blocks_forward.Goals as goal

pub returns-then-walk-eq0-clause-moves : goal.returns-then-walk-eq0-clause-moves
returns-then-walk-eq0-clause-moves g c =
    walk_to_mark _ _ _ _ _ _ _ _ _ c.forward-walk.ensures (omega arith) c.if-walk-eq0.true
    c.moved.ensures.obj c.moved.ensures.stop c.moved.ensures.left

pub returns-then-most-count-clause-moves : goal.returns-then-most-count-clause-moves
returns-then-most-count-clause-moves g c =
    walk_of_all _ _ _ _ _ _ _ _ _ c.forward-walk.ensures (omega arith) c.if-walk-eq0.false c.if-most-count.true
    c.moved-then-most-count.ensures.obj c.moved-then-most-count.ensures.stop c.moved-then-most-count.ensures.left

pub returns-else-most-count-clause-moves : goal.returns-else-most-count-clause-moves
returns-else-most-count-clause-moves g c =
    walk_to_end _ _ _ _ _ _ _ _ _ c.forward-walk.ensures (omega arith) c.if-walk-eq0.false (omega arith)
    c.moved-else-most-count.ensures.obj c.moved-else-most-count.ensures.stop c.moved-else-most-count.ensures.left
