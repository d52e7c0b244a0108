use Rattle.std.proofs.lemmas.Result.{on_ok_weaker}
use Rattle.cartridge_sides.proofs.CopyLemmas.{appended, write_keeps}
use Rattle.cartridge_sides.proofs.copying.put_behind.Goals as goal

pub returns-clause-front : goal.returns-clause-front
returns-clause-front g c = λ h.
    write_keeps (g.D.Disk.state c.args.spare.now) (g.D.Disk.state c.write_at.new.self)
    (g.met.D.Disk.is_disk c.args.spare.now h) (c.write_at.ensures.time h) c.args.at c.args.bytes.now
    _ (c.write_at.ensures.writes h) (c.requires.end h)

pub returns-clause-written : goal.returns-clause-written
returns-clause-written g c = λ h.
    on_ok_weaker c.write_at.result
    (appended c.args.at c.args.bytes.now (g.D.Disk.state c.args.spare.now).seen
    (g.D.Disk.state c.write_at.new.self).seen (c.requires.end h))
    (c.write_at.ensures.writes h).written
