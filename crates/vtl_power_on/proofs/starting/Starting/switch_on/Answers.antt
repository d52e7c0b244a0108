use Rattle.std.proofs.Common.{◌≡◌, ◌≤◌, set, Option, Some, sym, subst, arith}
use Rattle.tape_buffer.specs.State.{BufferState}
use Rattle.vtl_power_on.specs.Starting.{StaysOff}
use Rattle.vtl_power_on.proofs.WaitingLemmas.{stays_off, switches}
use Rattle.vtl_power_on.proofs.starting.Starting.switch_on.Goals as goal

pub returns-in_default-clause-ok : goal.returns-in_default-clause-ok
returns-in_default-clause-ok g c =
    let least : 1 ≤ c.args.number = omega (arith, c.number.ensures.value, c.number.ensures.range.0) in
    let most : c.args.number ≤ 16 = omega (arith, c.number.ensures.value, c.number.ensures.range.1) in
    switches g.D.Disk.state c.self.inside.held c.self.inside.waiting.items c.args.number c.place-place.result
    c.index_mut.result.now c.replace-cartridge.result c.replace-cartridge.new.dest c.args.opened.store
    c.args.opened.left c.in-Ok.bay c.install.new.self c.args.self.now c.self.view_is least most c.self.invariant
    c.place-place.ensures.place c.index_mut.ensures.value c.replace-cartridge.ensures.value
    c.replace-cartridge.ensures.after c.requires c.in-Ok.ensures.on c.in_default.ensures.ok

pub returns-in-Err-clause-err : goal.returns-in-Err-clause-err
returns-in-Err-clause-err g c =
    let least : 1 ≤ c.args.number = omega (arith, c.number.ensures.value, c.number.ensures.range.0) in
    let most : c.args.number ≤ 16 = omega (arith, c.number.ensures.value, c.number.ensures.range.1) in
    let now = λ (b : Option (BufferState g.row.D.Denot)).
    set (set c.self.inside.waiting.items c.place-place.result c.replace-cartridge.new.dest) c.place-place.result b in
    subst (λ (b : Option (BufferState g.row.D.Denot)). StaysOff g.D.Disk.state c.args.number c.args.opened.store
    c.args.self.now (record { held = c.self.inside.held; waiting = now b })
    × (Some c.in-Err.field-0.store ≡ Some c.args.opened.store)) (sym c.replace.ensures.after)
    (stays_off g.D.Disk.state c.self.inside.held c.self.inside.waiting.items c.args.number c.place-place.result
    c.index_mut.result.now c.replace-cartridge.result c.replace-cartridge.new.dest c.in-Err.field-0.cartridge
    c.args.opened.store c.in-Err.field-0.store c.args.opened.left c.in-Err.ensures.off.0 c.args.self.now c.self.view_is
    least most c.self.invariant c.place-place.ensures.place c.index_mut.ensures.value c.replace-cartridge.ensures.value
    c.requires c.in-Err.ensures.off.1)
