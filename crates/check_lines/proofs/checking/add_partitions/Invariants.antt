use Rattle.std.proofs.Common.{◌≡◌, ◌++◌, flat_map}
use Rattle.std.specs.List.{range_with_len}
use Rattle.cartridge.specs.Contents.{volume_made}
use Rattle.check_lines.specs.SideText.{partition_line}
use Rattle.check_lines.proofs.checking.add_partitions.Given as goal

-- the lines of the partitions so far stand behind the text
abbrev pub invariant-loop-part : goal.invariant-loop-part
invariant-loop-part g l =
    l.text.items ≡ l.fn.text.items
    ++ flat_map (partition_line (volume_made l.cartridge.contents)) (range_with_len 0 l.part-counter)
