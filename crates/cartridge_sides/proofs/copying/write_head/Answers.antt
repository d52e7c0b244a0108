use Rattle.std.proofs.Common.{arith}
use Rattle.gate_journal.specs.Inner.Headings.{few_capacities}
use Rattle.gate_journal.specs.Side.{heading_of}
use Rattle.cartridge_sides.proofs.CopyLemmas.{cut_keeps, keeps_then}
use Rattle.cartridge_sides.proofs.copying.write_head.Goals as goal

pub returns-in_err-cut-clause-front : goal.returns-in_err-cut-clause-front
returns-in_err-cut-clause-front g c = λ h.
    cut_keeps (g.D.Disk.state c.args.spare.now) (g.D.Disk.state c.cut.new.self)
    (g.met.D.Disk.is_disk c.args.spare.now h) (c.cut.ensures.time h) _ _ (c.cut.ensures.cuts h)
    (λ long. omega (arith, long, c.len.ensures.length h, c.min-at.ensures))

pub returns-in_err-put_behind-clause-front : goal.returns-in_err-put_behind-clause-front
returns-in_err-put_behind-clause-front g c = λ h.
    let old = g.D.Disk.state c.args.spare.now in
    let mid = g.D.Disk.state c.cut.new.self in
    let later = c.cut.ensures.passes.stays_honest h in
    keeps_then old mid (g.D.Disk.state c.put_behind.new.spare) (g.met.D.Disk.is_disk c.cut.new.self later)
    (cut_keeps old mid (g.met.D.Disk.is_disk c.args.spare.now h) (c.cut.ensures.time h) _ _ (c.cut.ensures.cuts h)
    (λ long. omega (arith, long, c.len.ensures.length h, c.min-at.ensures)))
    (c.put_behind.ensures.front later)

pub returns-clause-front : goal.returns-clause-front
returns-clause-front g c = λ h.
    let old = g.D.Disk.state c.args.spare.now in
    let mid = g.D.Disk.state c.cut.new.self in
    let later = c.cut.ensures.passes.stays_honest h in
    keeps_then old mid (g.D.Disk.state c.put_behind.new.spare) (g.met.D.Disk.is_disk c.cut.new.self later)
    (cut_keeps old mid (g.met.D.Disk.is_disk c.args.spare.now h) (c.cut.ensures.time h) _ _ (c.cut.ensures.cuts h)
    (λ long. omega (arith, long, c.len.ensures.length h, c.min-at.ensures)))
    (c.put_behind.ensures.front later)

pub returns-clause-end : goal.returns-clause-end
returns-clause-end g c =
    let few = few_capacities (heading_of c.args.header.now) c.requires.header in
    omega (arith, few, c.put_head.ensures.len, c.len-2.ensures, c.min-at.ensures)
