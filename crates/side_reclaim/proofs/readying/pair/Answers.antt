use Rattle.std.proofs.lemmas.Result.{on_ok_weaker}
use Rattle.cartridge_sides.specs.Passes.{IsPrepared}
use Rattle.std.proofs.Common.{sym, subst}
use Rattle.side_reclaim.proofs.ReadyLemmas.{first_runs, paired, sure_first}
use Rattle.side_reclaim.proofs.readying.pair.Goals as goal

pub returns-clause-any_moment : goal.returns-clause-any_moment
returns-clause-any_moment g c = λ honest head bodies gives prepared.
    let state = g.D.Disk.state in
    let laws = g.met.D.Disk.is_disk in
    let f0 = c.args.first.now in
    let s = c.args.second.now in
    let f1 = c.open_pair.new.first in
    first_runs state laws f0 f1 s c.args.which head bodies gives
    (c.open_pair.ensures.any_moment honest.0 honest.1
    (sure_first state laws (record { first = f0; second = s }) c.args.which head bodies gives)
    (λ shut image left. subst IsPrepared (sym (gives.second image left)) (prepared shut))
    c.args.which head bodies (state s).seen (laws s honest.1).reads gives.stands)

pub returns-clause-ok : goal.returns-clause-ok
returns-clause-ok g c = λ honest head bodies gives prepared.
    let state = g.D.Disk.state in
    let laws = g.met.D.Disk.is_disk in
    let f0 = c.args.first.now in
    let s = c.args.second.now in
    let f1 = c.open_pair.new.first in
    on_ok_weaker c.open_pair.result
    (paired state laws f0 f1 s c.args.which head bodies gives
    (c.open_pair.ensures.passes.stays_honest honest.0, honest.1)
    (returns-clause-any_moment g c honest head bodies gives prepared))
    (c.open_pair.ensures.ok honest.0
    (sure_first state laws (record { first = f0; second = s }) c.args.which head bodies gives))
