use Rattle.std.proofs.Common.{arith}
use Rattle.volume_core.specs.Medium.{volume_of}
use Rattle.positioning.proofs.CountLemmas.{found_backward, no_fewer, short_backward}
use Rattle.positioning.proofs.walks.backward.Goals as goal

pub overflow_sub-behind : goal.overflow_sub-behind
overflow_sub-behind g c =
    let volume = volume_of (g.C.Catalog.state c.args.catalog.now) in
    let more = no_fewer volume c.args.part c.args.limit c.args.from c.requires.range in
    omega (arith, more, c.marks_upto-before.ensures.marks, c.marks_upto.ensures.marks)

pub returns-then-behind-marks : goal.returns-then-behind-marks
returns-then-behind-marks g c =
    let volume = volume_of (g.C.Catalog.state c.args.catalog.now) in
    short_backward volume c.args.part c.args.from c.args.limit c.args.marks c.marks_upto-before.result
    c.marks_upto.result c.marks_upto-before.ensures.marks c.marks_upto.ensures.marks c.requires.some c.requires.range
    c.if-behind-marks.true

pub returns : goal.returns
returns g c =
    let volume = volume_of (g.C.Catalog.state c.args.catalog.now) in
    found_backward volume c.args.part c.args.from c.args.limit c.args.marks c.marks_upto-before.result
    c.marks_upto.result c.marks_upto-before.ensures.marks c.marks_upto.ensures.marks c.requires.some
    c.mark_at-last.result c.if-behind-marks.false c.mark_at-last.ensures
