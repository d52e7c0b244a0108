use Rattle.std.proofs.Common.{◌<◌, ◌^◌, arith}
use Rattle.std.proofs.lemmas.Result.{on_ok_weaker}
use Rattle.side_reclaim.proofs.TakingLemmas.{alone, has_start, has_written, is_copy, mid_paired, mid_stands, taken, with_copy, without}
use Rattle.side_reclaim.proofs.taking.copy_over.Goals as goal

pub returns-in_err-write_copy-clause-any_moment : goal.returns-in_err-write_copy-clause-any_moment
returns-in_err-write_copy-clause-any_moment g c = λ honest which head bodies counts may.
    without g.S.GivesBodies.gives c.args.copied.base c.args.source.now c.write_copy.new.source which head bodies counts
    (g.D.Disk.state c.args.spare.now) (g.D.Disk.state c.write_copy.new.spare)
    (c.write_copy.ensures.any_moment honest may.closed may.sure which head bodies counts may.stands)

pub returns-clause-ok : goal.returns-clause-ok
returns-clause-ok g c =
    let old = g.D.Disk.state c.args.spare.now in
    let mid = g.D.Disk.state c.write_copy.new.spare in
    let new = g.D.Disk.state c.open_copy.new.spare in
    let header = c.args.header.now in
    let copied = c.args.copied in
    let made = c.in_ok-write_copy.ensures.ok in
    let epoch_fits : copied.epoch < 2 ^ 64 = omega arith in
    let base_fits : copied.base < 2 ^ 32 = omega arith in
    taken g.S.GivesBodies.gives header copied made.0 c.args.source.now c.write_copy.new.source old mid new made.1
    made.2 c.open_copy.result c.open_copy.ensures.passes.none_failed
    (λ honest which head bodies counts may.
    (let run = c.write_copy.ensures.any_moment honest may.closed may.sure which head bodies counts may.stands in
    let then_honest = c.write_copy.ensures.disk.stays_honest honest in
    let stands = mid_stands header copied which head bodies counts old mid may made.0 made.2 honest
    (g.met.D.Disk.is_disk c.write_copy.new.spare then_honest) run in
    c.open_copy.ensures.takes_over then_honest which head bodies made.0 counts stands
    (mid_paired header copied which head bodies counts old mid may made.0 made.2 honest stands)
    (is_copy header copied which head bodies counts old mid may made.0 made.2 honest epoch_fits base_fits)
    (has_written header copied which head bodies counts old mid may made.0 made.2 honest)))
    (λ honest which head bodies counts may.
    on_ok_weaker c.open_copy.result
    (λ opened. alone header copied which head bodies counts old mid may made.0 made.2 honest new opened.0 opened.1)
    (c.open_copy.ensures.ok (c.write_copy.ensures.disk.stays_honest honest)
    (has_start header copied which head bodies counts old mid may made.0 made.2 honest)))

pub returns-clause-any_moment : goal.returns-clause-any_moment
returns-clause-any_moment g c = λ honest which head bodies counts may.
    let old = g.D.Disk.state c.args.spare.now in
    let mid = g.D.Disk.state c.write_copy.new.spare in
    let new = g.D.Disk.state c.open_copy.new.spare in
    let header = c.args.header.now in
    let copied = c.args.copied in
    let made = c.in_ok-write_copy.ensures.ok in
    let epoch_fits : copied.epoch < 2 ^ 64 = omega arith in
    let base_fits : copied.base < 2 ^ 32 = omega arith in
    let run = c.write_copy.ensures.any_moment honest may.closed may.sure which head bodies counts may.stands in
    let then_honest = c.write_copy.ensures.disk.stays_honest honest in
    let stands = mid_stands header copied which head bodies counts old mid may made.0 made.2 honest
    (g.met.D.Disk.is_disk c.write_copy.new.spare then_honest) run in
    let only = (made.2.written honest).1 in
    with_copy g.S.GivesBodies.gives copied.base c.args.source.now c.write_copy.new.source which head bodies counts
    old mid new made.0 made.1 made.2.count_is run
    (c.open_copy.ensures.any_moment then_honest only which head bodies made.0 counts stands
    (mid_paired header copied which head bodies counts old mid may made.0 made.2 honest stands)
    (is_copy header copied which head bodies counts old mid may made.0 made.2 honest epoch_fits base_fits)
    (has_written header copied which head bodies counts old mid may made.0 made.2 honest))
