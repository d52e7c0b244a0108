use Rattle.std.proofs.lemmas.Result.{on_ok_weaker}
use Rattle.tape_disk.specs.TwoDisks.{AreHonest, TwoDisks, two_in_sequence}
use Rattle.side_reclaim.specs.Ready.{GivesSide}
use Rattle.side_reclaim.proofs.ReadyLemmas.{still_then}
use Rattle.side_reclaim.proofs.readying.make_ready.Goals as goal

pub returns-in_err-pair-clause-any_moment : goal.returns-in_err-pair-clause-any_moment
returns-in_err-pair-clause-any_moment g c = λ honest head bodies gives.
    let state = g.D.Disk.state in
    let which = c.args.which in
    let a : TwoDisks g.row.D.Denot = record { first = c.args.first.now; second = c.args.second.now } in
    let b : TwoDisks g.row.D.Denot = record { first = c.prepare.new.first; second = c.prepare.new.second } in
    let d : TwoDisks g.row.D.Denot = record { first = c.pair.new.first; second = c.pair.new.second } in
    let first = c.in_ok-prepare.ensures.ok honest head bodies gives in
    let disks = c.prepare.ensures.disks in
    two_in_sequence state a b d (GivesSide which head bodies) (c.prepare.ensures.any_moment honest head bodies gives)
    (c.pair.ensures.any_moment (disks.0.stays_honest honest.0, disks.1.stays_honest honest.1) head bodies first.0.gives
    first.1)

pub returns-clause-any_moment : goal.returns-clause-any_moment
returns-clause-any_moment g c = λ honest head bodies gives.
    let state = g.D.Disk.state in
    let which = c.args.which in
    let a : TwoDisks g.row.D.Denot = record { first = c.args.first.now; second = c.args.second.now } in
    let b : TwoDisks g.row.D.Denot = record { first = c.prepare.new.first; second = c.prepare.new.second } in
    let d : TwoDisks g.row.D.Denot = record { first = c.pair.new.first; second = c.pair.new.second } in
    let e : TwoDisks g.row.D.Denot = record { first = c.close.new.first; second = c.close.new.second } in
    let first = c.in_ok-prepare.ensures.ok honest head bodies gives in
    let disks = c.prepare.ensures.disks in
    let still : AreHonest state b = (disks.0.stays_honest honest.0, disks.1.stays_honest honest.1) in
    let second = c.in_ok-pair.ensures.ok still head bodies first.0.gives first.1 in
    let more = c.pair.ensures.disks in
    two_in_sequence state a b e (GivesSide which head bodies) (c.prepare.ensures.any_moment honest head bodies gives)
    (two_in_sequence state b d e (GivesSide which head bodies)
    (c.pair.ensures.any_moment still head bodies first.0.gives first.1)
    (c.close.ensures.any_moment (more.0.stays_honest still.0, more.1.stays_honest still.1) head bodies
    second.0.gives second.1))

pub returns-clause-ok : goal.returns-clause-ok
returns-clause-ok g c = λ honest head bodies gives.
    let state = g.D.Disk.state in
    let laws = g.met.D.Disk.is_disk in
    let which = c.args.which in
    let a : TwoDisks g.row.D.Denot = record { first = c.args.first.now; second = c.args.second.now } in
    let b : TwoDisks g.row.D.Denot = record { first = c.prepare.new.first; second = c.prepare.new.second } in
    let d : TwoDisks g.row.D.Denot = record { first = c.pair.new.first; second = c.pair.new.second } in
    let e : TwoDisks g.row.D.Denot = record { first = c.close.new.first; second = c.close.new.second } in
    let first = c.in_ok-prepare.ensures.ok honest head bodies gives in
    let disks = c.prepare.ensures.disks in
    let still : AreHonest state b = (disks.0.stays_honest honest.0, disks.1.stays_honest honest.1) in
    let second = c.in_ok-pair.ensures.ok still head bodies first.0.gives first.1 in
    let more = c.pair.ensures.disks in
    on_ok_weaker c.close.result
    (λ done. (
      still_then state laws a d e which head bodies
          (still_then state laws a b d which head bodies first.0 second.0) done.0,
      done.1,
    ))
    (c.close.ensures.ok (more.0.stays_honest still.0, more.1.stays_honest still.1) head bodies second.0.gives second.1)
