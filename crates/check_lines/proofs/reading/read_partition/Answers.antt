use Rattle.std.proofs.Common.{Ok, ap, arith, take}
use Rattle.std.proofs.lemmas.List.{take_all}
use Rattle.volume_core.specs.Volume.{objects_of}
use Rattle.cartridge.specs.Contents.{volume_made}
use Rattle.check_lines.specs.Reading.{block_lengths}
use Rattle.check_lines.proofs.ReadingLemmas.{as_long, fault_on, object_on}
use Rattle.check_lines.proofs.reading.read_partition.Goals as goal

pub returns-in-Err : goal.returns-in-Err
returns-in-Err g c =
    fault_on g.D.Disk.state g.D.Disk.effect _ _ _ _ _ _ c.in-Err.fault
    c.loop-at.invariant.0 c.in-Err.ensures

pub loop-at-preserved : goal.loop-at-preserved
loop-at-preserved g c =
    let all = object_on g.D.Disk.state g.D.Disk.effect _ _ _ c.args.part c.loop-at.at
    c.loop-at.invariant.0 c.in_default.ensures in
    (all, all.awake)

pub returns : goal.returns
returns g c =
    let objects = objects_of (volume_made c.args.cartridge.now.contents) c.args.part in
    as_long g.D.Disk.state g.D.Disk.effect _ _ (block_lengths (take c.loop-at.at objects)) (block_lengths objects)
    (Ok tt)
    (ap block_lengths (take_all c.loop-at.at objects
    (omega (arith, c.loop-at-test.false, c.loop-at.auto.at-end, c.count-count.ensures.count))))
    c.loop-at.invariant.0
