use Rattle.library.proofs.finishing.end_shared.Goals as goal

pub returns-clause-left : goal.returns-clause-left
returns-clause-left g c = record { old = c.end.ensures.left.joined; left = c.end.ensures.left.left }
