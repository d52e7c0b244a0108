use Rattle.std.proofs.Common.{◌∙◌, ◌≤◌, sym, subst, set, Some, refl, arith}
use Rattle.tape_buffer.specs.State.{BufferState}
use Rattle.vtl_power_on.specs.Inner.Waiting.{PutsHome}
use Rattle.vtl_power_on.proofs.WaitingLemmas.{full_beside, puts_beside}
use Rattle.vtl_power_on.proofs.starting.Starting.put_beside.Goals as goal

pub returns-then-is_some-clause-err : goal.returns-then-is_some-clause-err
returns-then-is_some-clause-err g c =
    let least : 1 ≤ c.args.drive = omega (arith, c.number.ensures.value, c.number.ensures.range.0) in
    let most : c.args.drive ≤ 16 = omega (arith, c.number.ensures.value, c.number.ensures.range.1) in (
      refl,
      full_beside c.self.inside.held c.self.inside.waiting.items c.args.drive c.place.result
          c.index_mut-place.result.now c.args.self.now c.self.view_is least most c.self.invariant c.place.ensures.place
          c.index_mut-place.ensures.value (sym c.is_some.ensures ∙ c.if-is_some.true),
    )

pub returns-clause-ok : goal.returns-clause-ok
returns-clause-ok g c =
    let least : 1 ≤ c.args.drive = omega (arith, c.number.ensures.value, c.number.ensures.range.0) in
    let most : c.args.drive ≤ 16 = omega (arith, c.number.ensures.value, c.number.ensures.range.1) in
    subst (λ (b : BufferState g.row.D.Denot). PutsHome c.args.drive c.args.cartridge c.args.self.now (record {
      held = c.self.inside.held;
      waiting = set c.self.inside.waiting.items c.place.result (Some b);
    })) (sym c.insert.ensures.value)
    (puts_beside c.self.inside.held c.self.inside.waiting.items c.args.drive c.place.result
    c.index_mut-place.result.now c.args.cartridge c.args.self.now c.self.view_is least most c.self.invariant
    c.place.ensures.place c.index_mut-place.ensures.value (sym c.is_some.ensures ∙ c.if-is_some.false))
