use Rattle.vtl_script.specs.Answered.{none_answered}
use Rattle.bay_moves.specs.Inner.RunsOn.{held_none}
use Rattle.bay_moves.proofs.runs.HeldRunner.run.Goals as goal

pub returns-in-Phase-clause-ok : goal.returns-in-Phase-clause-ok
returns-in-Phase-clause-ok g c = rw c.in-Phase.is (rw c.as_mut_slice.ensures at c.run_lines.ensures.ok)

pub returns-in-Phase-clause-err : goal.returns-in-Phase-clause-err
returns-in-Phase-clause-err g c =
    none_answered _ c.args.self.now _ c.args.item.now c.run_lines.result (held_none g.D.Disk.state c.args.self.now)
    c.run_lines.ensures.err

pub returns-in-Phase-clause-same : goal.returns-in-Phase-clause-same
returns-in-Phase-clause-same g c = λ i number. c.run_lines.ensures.bays number i

pub returns-in-Move-clause-ok : goal.returns-in-Move-clause-ok
returns-in-Move-clause-ok g c = rw c.in-Move.is c.run_move.ensures.ok

pub returns-in-Move-clause-err : goal.returns-in-Move-clause-err
returns-in-Move-clause-err g c =
    none_answered _ c.args.self.now _ c.args.item.now c.run_move.result (held_none g.D.Disk.state c.args.self.now)
    c.run_move.ensures.err

pub returns-in-Move-clause-same : goal.returns-in-Move-clause-same
returns-in-Move-clause-same g c = λ i number. c.run_move.ensures.bays number i
