use Rattle.std.proofs.Common.{◌⊎◌, List, ℕ, length, sym, ◌∙◌, ap, subst, arith}
use Rattle.std.proofs.lemmas.Result.{on_ok_weaker}
use Rattle.tape_disk.specs.Disk.{Smeared}
use Rattle.tape_disk.specs.Moments.{weakened}
use Rattle.cartridge_sides.specs.Passes.{SidesStandFor, TakesOver}
use Rattle.cartridge_sides.proofs.PassLemmas.{opened_counts, opening_keeps}
use Rattle.cartridge_sides.proofs.passes.open_copy.Goals as goal

pub returns-clause-ok : goal.returns-clause-ok
returns-clause-ok g c = λ h start.
    on_ok_weaker c.write_gate.result (λ w. w) (c.write_gate.ensures.written h (omega (arith, ap length start.3)))

pub returns-clause-takes_over : goal.returns-clause-takes_over
returns-clause-takes_over g c = λ h which head bodies copies counts stands paired copy written.
    let old = g.D.Disk.state c.args.spare.now in
    on_ok_weaker c.write_gate.result
    (λ w image left.
    subst (λ (l : List ℕ). TakesOver which head copies counts l) (sym (w.1 image left ∙ w.0))
    (opened_counts which head bodies copies counts old.seen stands paired copy written))
    (c.write_gate.ensures.written h (omega (arith, ap length written.4)))

pub returns-clause-any_moment : goal.returns-clause-any_moment
returns-clause-any_moment g c = λ h sure which head bodies copies counts stands paired copy written.
    let old = g.D.Disk.state c.args.spare.now in
    weakened old (g.D.Disk.state c.write_gate.new.disk) (Smeared 0 1 old.seen)
    (λ (image : List ℕ). SidesStandFor which head bodies counts image ⊎ TakesOver which head copies counts image)
    (c.write_gate.ensures.any_moment h (omega (arith, ap length written.4)) sure)
    (λ image smeared. opening_keeps which head bodies copies counts old.seen stands paired copy written image smeared)
