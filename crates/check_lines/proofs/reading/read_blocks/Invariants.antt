use Rattle.std.proofs.Common.{◌≡◌, false, take, Ok}
use Rattle.cartridge.specs.Contents.{volume_made}
use Rattle.check_lines.specs.Reading.{IsRead, lengths_in}
use Rattle.check_lines.proofs.reading.read_blocks.Given as goal

-- what stands before is read
abbrev pub invariant-loop-part : goal.invariant-loop-part
invariant-loop-part g l =
    IsRead g.D.Disk.state g.D.Disk.effect
    (lengths_in (take l.part (volume_made l.fn.cartridge.contents))) l.fn.cartridge l.cartridge
    (Ok tt)
    × (l.cartridge.failed ≡ false)
