use Rattle.std.proofs.Common.{◌≡◌, false, take, Ok}
use Rattle.volume_core.specs.Volume.{objects_of}
use Rattle.cartridge.specs.Contents.{volume_made}
use Rattle.check_lines.specs.Reading.{IsRead, block_lengths}
use Rattle.check_lines.proofs.reading.read_partition.Given as goal

-- what stands before is read
abbrev pub invariant-loop-at : goal.invariant-loop-at
invariant-loop-at g l =
    IsRead g.D.Disk.state g.D.Disk.effect
    (block_lengths (take l.at (objects_of (volume_made l.fn.cartridge.contents) l.part))) l.fn.cartridge l.cartridge
    (Ok tt)
    × (l.cartridge.failed ≡ false)
