use Rattle.gate_journal.specs.Side.{front_of}
use Rattle.gate_journal.proofs.Parts.{body_there}
use Rattle.gate_journal.proofs.Extents.{whole_body}
use Rattle.gate_journal.proofs.journal.Journal.body_at.Goals as goal

pub returns-clause-body : goal.returns-clause-body
returns-clause-body g c = rw (← c.self.view_is) (λ honest.
    let i = c.self.inside in
    body_there (g.D.Disk.state i.disk) (front_of i.header i.copied i.pair) i.extents.items i.end i.failed
    (c.self.invariant.3 honest) c.args.frame c.index.result.now (rw (← c.self.view_is) at c.requires) c.index.ensures)

pub returns-clause-whole : goal.returns-clause-whole
returns-clause-whole g c = rw (← c.self.view_is)
    (whole_body c.self.inside.extents.items c.args.frame c.index.result.now (rw (← c.self.view_is) at c.requires)
    c.index.ensures)
