use Rattle.std.proofs.Common.{◌≡◌, ◌∙◌}
use Rattle.cartridge.specs.Contents.{volume_made}
use Rattle.check_lines.specs.SideText.{partition_line}
use Rattle.check_lines.proofs.SideTextLemmas.{partition_line_is, partition_more}
use Rattle.check_lines.proofs.checking.add_partitions.Goals as goal

pub loop-part-preserved : goal.loop-part-preserved
loop-part-preserved g c =
    let volume = volume_made c.args.cartridge.now.contents in
    let part = c.loop-part.part-counter in
    let line : c.as_bytes.result.now ≡ partition_line volume part =
    partition_line_is volume part c.count-count.result c.used-used.result c.as_bytes.result.now
    c.count-count.ensures.count c.used-used.ensures.used (c.as_bytes.ensures.value ∙ c.in_ok-line.ensures.ok) in
    c.in_ok-extend_from_slice.ensures.items
    ∙ partition_more volume c.args.text.now.items c.loop-part.text.items c.as_bytes.result.now part
    c.loop-part.invariant line
