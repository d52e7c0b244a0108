use Rattle.std.proofs.Common.{sym, ◌∙◌}
use Rattle.std.proofs.lemmas.Result.{on_ok_weaker}
use Rattle.cartridge_sides.specs.Pairs.{PairStandsFor}
use Rattle.cartridge_sides.proofs.GateLemmas.{not_shut, reads_shut}
use Rattle.cartridge_sides.proofs.RunLemmas.{faults_second, prepared_before, prepared_now, prepared_on, still}
use Rattle.cartridge_sides.proofs.passes.prepare_pair.Goals as goal

pub returns-in_err-before-clause-any_moment : goal.returns-in_err-before-clause-any_moment
returns-in_err-before-clause-any_moment g c = λ h k which head bodies start each.
    still (g.D.Disk.state c.args.second.now) (PairStandsFor which head bodies (g.D.Disk.state c.args.first.now).seen)
    (g.met.D.Disk.is_disk c.args.second.now k) each

pub returns-then-before-clause-faults : goal.returns-then-before-clause-faults
returns-then-before-clause-faults g c =
    faults_second (g.D.Disk.state c.args.first.now) (g.D.Disk.state c.read_gate.new.disk)
    (g.D.Disk.state c.args.second.now) (g.D.Disk.state c.write_start.new.disk) c.write_start.result
    c.in_ok-before.ensures.passes.none_failed c.write_start.ensures.passes

pub returns-then-before-clause-ok : goal.returns-then-before-clause-ok
returns-then-before-clause-ok g c = λ h k start.
    let first = (g.D.Disk.state c.args.first.now).seen in
    let second = g.D.Disk.state c.args.second.now in
    let shut = reads_shut first start (λ e. c.if-before.true (c.in_ok-before.ensures.gate h ∙ e)) in
    on_ok_weaker c.write_start.result
    (prepared_now first second (g.D.Disk.state c.write_start.new.disk) (g.met.D.Disk.is_disk c.args.second.now k) shut)
    (c.write_start.ensures.written k)

pub returns-then-before-clause-any_moment : goal.returns-then-before-clause-any_moment
returns-then-before-clause-any_moment g c = λ h k which head bodies start.
    let first = (g.D.Disk.state c.args.first.now).seen in
    let second = g.D.Disk.state c.args.second.now in
    let shut = reads_shut first start.start (λ e. c.if-before.true (c.in_ok-before.ensures.gate h ∙ e)) in
    prepared_on first second (g.D.Disk.state c.write_start.new.disk) (g.met.D.Disk.is_disk c.args.second.now k) shut
    (c.write_start.ensures.time k) which head bodies

pub returns-else-before-clause-ok : goal.returns-else-before-clause-ok
returns-else-before-clause-ok g c = λ h k start.
    prepared_before (g.D.Disk.state c.args.first.now).seen (g.D.Disk.state c.args.second.now)
    (g.met.D.Disk.is_disk c.args.second.now k)
    (not_shut (g.D.Disk.state c.args.first.now).seen (sym (c.in_ok-before.ensures.gate h) ∙ c.if-before.false))

pub returns-else-before-clause-any_moment : goal.returns-else-before-clause-any_moment
returns-else-before-clause-any_moment g c = λ h k which head bodies start each.
    still (g.D.Disk.state c.args.second.now) (PairStandsFor which head bodies (g.D.Disk.state c.args.first.now).seen)
    (g.met.D.Disk.is_disk c.args.second.now k) each
