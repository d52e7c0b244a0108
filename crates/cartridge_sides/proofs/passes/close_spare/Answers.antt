use Rattle.std.proofs.Common.{sym, ◌∙◌, arith}
use Rattle.std.proofs.lemmas.Result.{on_ok_weaker}
use Rattle.cartridge_sides.specs.Passes.{SidesStandFor}
use Rattle.cartridge_sides.proofs.GateLemmas.{closed_now, closed_still, read_rests, reads_open, still_long, still_sure, write_after_read}
use Rattle.cartridge_sides.proofs.PassLemmas.{closing_keeps}
use Rattle.cartridge_sides.proofs.passes.close_spare.Goals as goal

pub returns-in_err-side-clause-any_moment : goal.returns-in_err-side-clause-any_moment
returns-in_err-side-clause-any_moment g c = λ h start which head bodies counts stands.
    read_rests (g.D.Disk.state c.args.spare.now) (g.D.Disk.state c.read_gate.new.disk) start.sure
    (c.read_gate.ensures.unwritten h) (SidesStandFor which head bodies counts) stands

pub returns-then-side-clause-ok : goal.returns-then-side-clause-ok
returns-then-side-clause-ok g c = λ h start.
    closed_still (g.D.Disk.state c.args.spare.now) (g.D.Disk.state c.read_gate.new.disk) start.sure
    (c.read_gate.ensures.unwritten h) start.start (λ e. c.if-side.true (c.in_ok-side.ensures.gate h ∙ e))

pub returns-then-side-clause-any_moment : goal.returns-then-side-clause-any_moment
returns-then-side-clause-any_moment g c = λ h start which head bodies counts stands.
    read_rests (g.D.Disk.state c.args.spare.now) (g.D.Disk.state c.read_gate.new.disk) start.sure
    (c.read_gate.ensures.unwritten h) (SidesStandFor which head bodies counts) stands

pub returns-clause-ok : goal.returns-clause-ok
returns-clause-ok g c = λ h start.
    on_ok_weaker c.write_gate.result
    (closed_now (g.D.Disk.state c.args.spare.now) (g.D.Disk.state c.read_gate.new.disk) start.sure
    (c.read_gate.ensures.unwritten h) start.start (sym (c.in_ok-side.ensures.gate h) ∙ c.if-side.false)
    (g.D.Disk.state c.write_gate.new.disk))
    (c.write_gate.ensures.written (c.read_gate.ensures.passes.stays_honest h)
    (let long = still_long (g.D.Disk.state c.args.spare.now) (g.D.Disk.state c.read_gate.new.disk) start.sure
    (c.read_gate.ensures.unwritten h) start.start in omega (arith, long)))

pub returns-clause-any_moment : goal.returns-clause-any_moment
returns-clause-any_moment g c = λ h start which head bodies counts stands.
    let old = g.D.Disk.state c.args.spare.now in
    let opened = reads_open old.seen start.start (sym (c.in_ok-side.ensures.gate h) ∙ c.if-side.false) in
    write_after_read old (g.D.Disk.state c.read_gate.new.disk) start.sure (c.read_gate.ensures.unwritten h)
    (g.D.Disk.state c.write_gate.new.disk) 0
    (c.write_gate.ensures.any_moment (c.read_gate.ensures.passes.stays_honest h)
    (let long = still_long (g.D.Disk.state c.args.spare.now) (g.D.Disk.state c.read_gate.new.disk) start.sure
    (c.read_gate.ensures.unwritten h) start.start in omega (arith, long))
    (still_sure old (g.D.Disk.state c.read_gate.new.disk) start.sure (c.read_gate.ensures.unwritten h)))
    (SidesStandFor which head bodies counts) stands
    (λ image smeared. closing_keeps which head bodies counts old.seen image stands opened smeared)
