use Rattle.gate_journal.proofs.Bodies.{sure_now}
use Rattle.gate_journal.specs.Side.{front_of}
use Rattle.gate_journal.proofs.journal.Journal.known.Goals as goal

pub returns : goal.returns
returns g c = rw (← c.self.view_is)
    (let i = c.self.inside in
    record {
      front = c.self.invariant.0;
      base = c.self.invariant.5;
      end = λ h. (c.self.invariant.3 h).end_is;
      sure = λ h fine.
          sure_now (g.D.Disk.state i.disk) (front_of i.header i.copied i.pair) i.extents.items i.end i.failed
          (c.self.invariant.3 h)
          fine;
    })
