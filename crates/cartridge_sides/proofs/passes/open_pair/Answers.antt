use Rattle.std.proofs.Common.{List, ℕ, sym, ◌∙◌}
use Rattle.std.proofs.lemmas.Result.{on_ok_weaker}
use Rattle.cartridge_sides.specs.Pairs.{PairStandsFor}
use Rattle.cartridge_sides.proofs.GateLemmas.{paired_now, paired_still, read_rests, reads_shut, still_long, still_sure, write_after_read}
use Rattle.cartridge_sides.proofs.PassLemmas.{pairing_keeps}
use Rattle.cartridge_sides.proofs.passes.open_pair.Goals as goal

pub returns-in_err-pair-clause-any_moment : goal.returns-in_err-pair-clause-any_moment
returns-in_err-pair-clause-any_moment g c = λ h k start prepared which head bodies beside left stands.
    read_rests (g.D.Disk.state c.args.first.now) (g.D.Disk.state c.read_gate.new.disk) start.sure
    (c.read_gate.ensures.unwritten h) (λ (image : List ℕ). PairStandsFor which head bodies image beside) stands

pub returns-then-pair-clause-ok : goal.returns-then-pair-clause-ok
returns-then-pair-clause-ok g c = λ h start.
    paired_still (g.D.Disk.state c.args.first.now) (g.D.Disk.state c.read_gate.new.disk) start.sure
    (c.read_gate.ensures.unwritten h) start.start (sym (c.in_ok-pair.ensures.gate h) ∙ c.if-pair.true)

pub returns-then-pair-clause-any_moment : goal.returns-then-pair-clause-any_moment
returns-then-pair-clause-any_moment g c = λ h k start prepared which head bodies beside left stands.
    read_rests (g.D.Disk.state c.args.first.now) (g.D.Disk.state c.read_gate.new.disk) start.sure
    (c.read_gate.ensures.unwritten h) (λ (image : List ℕ). PairStandsFor which head bodies image beside) stands

pub returns-clause-ok : goal.returns-clause-ok
returns-clause-ok g c = λ h start.
    on_ok_weaker c.write_gate.result
    (paired_now (g.D.Disk.state c.args.first.now) (g.D.Disk.state c.read_gate.new.disk) start.sure
    (c.read_gate.ensures.unwritten h) start.start (g.D.Disk.state c.write_gate.new.disk))
    (c.write_gate.ensures.written (c.read_gate.ensures.passes.stays_honest h)
    (still_long (g.D.Disk.state c.args.first.now) (g.D.Disk.state c.read_gate.new.disk) start.sure
    (c.read_gate.ensures.unwritten h) start.start))

pub returns-clause-any_moment : goal.returns-clause-any_moment
returns-clause-any_moment g c = λ h k start prepared which head bodies beside left stands.
    let old = g.D.Disk.state c.args.first.now in
    let shut = reads_shut old.seen start.start (λ e. c.if-pair.false (c.in_ok-pair.ensures.gate h ∙ e)) in
    write_after_read old (g.D.Disk.state c.read_gate.new.disk) start.sure (c.read_gate.ensures.unwritten h)
    (g.D.Disk.state c.write_gate.new.disk) 9
    (c.write_gate.ensures.any_moment (c.read_gate.ensures.passes.stays_honest h)
    (still_long old (g.D.Disk.state c.read_gate.new.disk) start.sure (c.read_gate.ensures.unwritten h) start.start)
    (still_sure old (g.D.Disk.state c.read_gate.new.disk) start.sure (c.read_gate.ensures.unwritten h)))
    (λ (image : List ℕ). PairStandsFor which head bodies image beside) stands
    (λ image smeared. pairing_keeps which head bodies old.seen beside image stands shut
    (prepared shut beside left) smeared)
