use Rattle.std.proofs.Common.{◌≡◌, ◌∙◌, ◌+◌, ap, sym, subst, Result, is_err, ℕ, length, arith}
use Rattle.bay_moves.specs.Elements.{HeldState}
use Rattle.bay_moves.specs.Inner.Finishing.{IsWrittenUpTo}
use Rattle.bay_moves.specs.declared.finishing.Unwritten.{Unwritten}
use Rattle.bay_moves.proofs.FinishLemmas.{TurnsOne, all_written, none_yet, step_failed, step_fine}
use Rattle.bay_moves.proofs.held.Held.finish.Goals.{then-is_err, else-is_err}
use Rattle.bay_moves.proofs.held.Held.finish.Goals as goal

pub loop-place-init : goal.loop-place-init
loop-place-init g c = none_yet g.D.Disk.state c.args.self.now

pub loop-place-preserved : goal.loop-place-preserved
loop-place-preserved g c =
    let mid = c.loop-place.self in
    let one = c.write_out_at.result in
    let new = c.write_out_at.new.self in
    let next : TurnsOne g.D.Disk.state (c.loop-place.place + 1) mid one new = record {
      turns = c.write_out_at.ensures.turns;
      others = c.write_out_at.ensures.others;
      slots = c.write_out_at.ensures.slots;
      ok = c.write_out_at.ensures.ok;
      err = c.write_out_at.ensures.err;
    } in
    elim c.if-is_err.branch [
      | then-is_err w ↦
          step_failed g.D.Disk.state c.loop-place.place c.args.self.now mid new c.loop-place.result one
          c.if-is_err.result c.loop-place.invariant next (sym c.is_err.ensures.value ∙ w.if-is_err.true)
          (ap (λ (r : Result Unit Unwritten). is_err r) w.result-is)
      | else-is_err w ↦
          subst (λ (r : Result Unit Unwritten). IsWrittenUpTo g.D.Disk.state (c.loop-place.place + 1) c.args.self.now r
          new) (sym w.result-is)
          (step_fine g.D.Disk.state c.loop-place.place c.args.self.now mid new c.loop-place.result one
          c.loop-place.invariant next (sym c.is_err.ensures.value ∙ w.if-is_err.false))
    ]

pub returns : goal.returns
returns g c =
    let long = λ (h : HeldState g.row.D.Denot). length h.bays in
    let all : c.loop-place.place ≡ 16 = omega (arith, c.loop-place-test.false, c.loop-place.auto.place-end) in
    all_written g.D.Disk.state c.args.self.now c.loop-place.self c.loop-place.result
    (sym (ap long c.self.view_is) ∙ c.self.invariant) (sym (ap long c.self-2.view_is) ∙ c.self-2.invariant)
    (subst (λ (n : ℕ). IsWrittenUpTo g.D.Disk.state n c.args.self.now c.loop-place.result c.loop-place.self) all
    c.loop-place.invariant)
