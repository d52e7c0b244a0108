use Rattle.cartridge_sides.proofs.GateLemmas.{one_call, three_calls, two_calls}
use Rattle.cartridge_sides.proofs.starting.write_start.Goals as goal

pub returns-in_err-cut-clause-time : goal.returns-in_err-cut-clause-time
returns-in_err-cut-clause-time g c = λ h.
    one_call (g.D.Disk.state c.args.disk.now) (g.D.Disk.state c.cut.new.self) (g.met.D.Disk.is_disk c.args.disk.now h)
    (c.cut.ensures.time h)

pub returns-in_err-write_at-clause-time : goal.returns-in_err-write_at-clause-time
returns-in_err-write_at-clause-time g c = λ h.
    let h1 = c.cut.ensures.passes.stays_honest h in
    two_calls (g.D.Disk.state c.args.disk.now) (g.D.Disk.state c.cut.new.self) (g.met.D.Disk.is_disk c.args.disk.now h)
    (c.cut.ensures.time h) (g.D.Disk.state c.write_at.new.self) (c.write_at.ensures.time h1)

pub returns-clause-time : goal.returns-clause-time
returns-clause-time g c = λ h.
    let h1 = c.cut.ensures.passes.stays_honest h in
    let h2 = c.write_at.ensures.passes.stays_honest h1 in
    three_calls (g.D.Disk.state c.args.disk.now) (g.D.Disk.state c.cut.new.self)
    (g.met.D.Disk.is_disk c.args.disk.now h)
    (c.cut.ensures.time h) (g.D.Disk.state c.write_at.new.self) (c.write_at.ensures.time h1)
    (g.D.Disk.state c.sync.new.self) (c.sync.ensures.time h2)
