use Rattle.std.proofs.lemmas.Result.{on_ok_weaker}
use Rattle.side_reclaim.proofs.PairedLemmas.{first_start}
use Rattle.side_reclaim.proofs.ReadyLemmas.{each_gives, prepared, preparing, sure_first}
use Rattle.side_reclaim.proofs.readying.prepare.Goals as goal

pub returns-clause-any_moment : goal.returns-clause-any_moment
returns-clause-any_moment g c = λ honest head bodies gives.
    let state = g.D.Disk.state in
    let laws = g.met.D.Disk.is_disk in
    let f0 = c.args.first.now in
    let s0 = c.args.second.now in
    let f1 = c.prepare_pair.new.first in
    let s1 = c.prepare_pair.new.second in
    preparing state laws f0 f1 s0 s1 c.args.which head bodies gives (c.prepare_pair.ensures.first honest.0)
    (c.prepare_pair.ensures.any_moment honest.0 honest.1 c.args.which head bodies
    (sure_first state laws (record { first = f0; second = s0 }) c.args.which head bodies gives)
    (λ two left. each_gives state laws (record { first = f0; second = s0 }) c.args.which head bodies gives
    ((state f0).seen, two) ((laws f0 honest.0).reads, left)))

pub returns-clause-ok : goal.returns-clause-ok
returns-clause-ok g c = λ honest head bodies gives.
    let state = g.D.Disk.state in
    let laws = g.met.D.Disk.is_disk in
    let f0 = c.args.first.now in
    let s0 = c.args.second.now in
    let f1 = c.prepare_pair.new.first in
    let s1 = c.prepare_pair.new.second in
    let disks = c.prepare_pair.ensures.disks in
    on_ok_weaker c.prepare_pair.result
    (prepared state laws f0 f1 s0 s1 c.args.which head bodies gives (c.prepare_pair.ensures.first honest.0)
    (disks.0.stays_honest honest.0, disks.1.stays_honest honest.1)
    (returns-clause-any_moment g c honest head bodies gives))
    (c.prepare_pair.ensures.ok honest.0 honest.1
    (first_start c.args.which head bodies (state f0).seen (state s0).seen gives.stands))
