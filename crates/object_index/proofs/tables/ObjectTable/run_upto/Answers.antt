use Rattle.object_index.specs.Inner.Tables.{objects_of}
use Rattle.object_index.proofs.RunLemmas.{upto}
use Rattle.object_index.proofs.tables.ObjectTable.run_upto.Goals as goal

pub returns-clause-found : goal.returns-clause-found
returns-clause-found c =
    rw (← c.self.view_is)
    (upto (objects_of c.self.inside.blocks.items c.self.inside.count) c.self.inside.runs.runs
    c.self.invariant.0.are_runs
    c.args.n c.runs_below.result.count c.runs_below.result.last c.runs_below.ensures.last c.runs_below.ensures.behind)
