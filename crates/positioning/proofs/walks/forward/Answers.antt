use Rattle.std.proofs.Common.{arith}
use Rattle.volume_core.specs.Medium.{volume_of}
use Rattle.positioning.proofs.CountLemmas.{found_forward, no_fewer, short_forward, stands}
use Rattle.positioning.proofs.walks.forward.Goals as goal

pub overflow_sub-ahead : goal.overflow_sub-ahead
overflow_sub-ahead g c =
    let volume = volume_of (g.C.Catalog.state c.args.catalog.now) in
    let more = no_fewer volume c.args.part c.args.from c.args.limit c.requires.range in
    omega (arith, more, c.marks_upto-passed.ensures.marks, c.marks_upto.ensures.marks)

pub returns-then-ahead-marks : goal.returns-then-ahead-marks
returns-then-ahead-marks g c =
    let volume = volume_of (g.C.Catalog.state c.args.catalog.now) in
    short_forward volume c.args.part c.args.from c.args.limit c.args.marks c.marks_upto-passed.result
    c.marks_upto.result c.marks_upto-passed.ensures.marks c.marks_upto.ensures.marks c.requires.some c.requires.range
    c.if-ahead-marks.true

pub overflow_add-result : goal.overflow_add-result
overflow_add-result g c =
    let volume = volume_of (g.C.Catalog.state c.args.catalog.now) in
    let near =
    found_forward volume c.args.part c.args.from c.args.limit c.args.marks c.marks_upto-passed.result
    c.marks_upto.result c.marks_upto-passed.ensures.marks c.marks_upto.ensures.marks c.requires.some
    c.mark_at-last.result c.if-ahead-marks.false c.mark_at-last.ensures in
    omega (arith, near.within, c.ranges.limit.fits)

pub returns : goal.returns
returns g c =
    let volume = volume_of (g.C.Catalog.state c.args.catalog.now) in
    found_forward volume c.args.part c.args.from c.args.limit c.args.marks c.marks_upto-passed.result
    c.marks_upto.result c.marks_upto-passed.ensures.marks c.marks_upto.ensures.marks c.requires.some
    c.mark_at-last.result c.if-ahead-marks.false c.mark_at-last.ensures
