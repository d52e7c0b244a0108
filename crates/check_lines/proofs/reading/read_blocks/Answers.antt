use Rattle.std.proofs.Common.{Ok, ap, arith, take}
use Rattle.std.proofs.lemmas.List.{take_all}
use Rattle.cartridge.specs.Contents.{volume_made}
use Rattle.check_lines.specs.Reading.{lengths_in}
use Rattle.check_lines.proofs.ReadingLemmas.{as_long, fault_on, part_on}
use Rattle.check_lines.proofs.reading.read_blocks.Goals as goal

pub returns-in-Err : goal.returns-in-Err
returns-in-Err g c =
    fault_on g.D.Disk.state g.D.Disk.effect _ _ _ _ _ _ c.in-Err.fault
    c.loop-part.invariant.0 c.in-Err.ensures

pub loop-part-preserved : goal.loop-part-preserved
loop-part-preserved g c =
    let all = part_on g.D.Disk.state g.D.Disk.effect _ _ _ c.loop-part.part
    c.loop-part.invariant.0 c.in_default.ensures in
    (all, all.awake)

pub returns : goal.returns
returns g c =
    let volume = volume_made c.args.cartridge.now.contents in
    as_long g.D.Disk.state g.D.Disk.effect _ _ (lengths_in (take c.loop-part.part volume)) (lengths_in volume) (Ok tt)
    (ap lengths_in (take_all c.loop-part.part volume
    (omega (arith, c.loop-part-test.false, c.loop-part.auto.part-end, c.parts-part-end.ensures.parts))))
    c.loop-part.invariant.0
