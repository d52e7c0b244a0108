use Rattle.gate_journal.proofs.Writing.{after_cut, not_cut}
use Rattle.gate_journal.proofs.gathering.cut_behind.Goals as goal

pub returns-then-len-clause-any_moment : goal.returns-then-len-clause-any_moment
returns-then-len-clause-any_moment g c = λ h.
    let d0 = g.D.Disk.state c.args.disk.now in
    not_cut c.args.len d0 d0 (g.met.D.Disk.is_disk c.args.disk.now h)

pub returns-clause-any_moment : goal.returns-clause-any_moment
returns-clause-any_moment g c = λ h.
    after_cut c.args.len (g.D.Disk.state c.args.disk.now) (g.D.Disk.state c.cut.new.self)
    (g.met.D.Disk.is_disk c.args.disk.now h) _ (c.cut.ensures.cuts h) (c.cut.ensures.time h)
