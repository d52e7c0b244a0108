use Rattle.std.proofs.Common.{◌≡◌, ◌≤◌, ◌∙◌, ◌+◌, ◌-◌, ap, sym, Some, arith}
use Rattle.bay_moves.specs.Elements.{HeldState, bay_at}
use Rattle.bay_moves.proofs.BayLemmas.{changed_at, found_at}
use Rattle.bay_moves.proofs.FinishLemmas.{none_turn, on_failed, some_turn}
use Rattle.bay_moves.proofs.held.Held.write_out_at.Goals as goal

pub returns-in_default-clause-turns : goal.returns-in_default-clause-turns
returns-in_default-clause-turns g c =
    let number = c.args.place + 1 in
    let least : 1 ≤ number = omega (arith) in
    let most : number ≤ 16 = omega (arith, c.requires) in
    let at : c.args.place ≡ number - 1 = omega (arith) in
    let found = found_at c.self.inside.bays.items number c.args.place c.index_mut.result.now least most
    c.self.invariant at c.index_mut.ensures.value in
    let changed = changed_at c.self.inside.bays.items number c.args.place c.index_mut.result.now least most
    c.self.invariant at in
    none_turn g.D.Disk.state _ _
    (ap (λ (h : HeldState g.row.D.Denot). bay_at h.bays number) (sym c.self.view_is) ∙ found ∙ c.in_default.is)
    (changed.here ∙ c.in_default.is)

pub returns-in_default-clause-others : goal.returns-in_default-clause-others
returns-in_default-clause-others g c = λ other apart.
    let number = c.args.place + 1 in
    let least : 1 ≤ number = omega (arith) in
    let most : number ≤ 16 = omega (arith, c.requires) in
    let at : c.args.place ≡ number - 1 = omega (arith) in
    let changed = changed_at c.self.inside.bays.items number c.args.place c.index_mut.result.now least most
    c.self.invariant at in
    changed.elsewhere other apart ∙ ap (λ (h : HeldState g.row.D.Denot). bay_at h.bays other) c.self.view_is

pub returns-clause-turns : goal.returns-clause-turns
returns-clause-turns g c =
    let number = c.args.place + 1 in
    let least : 1 ≤ number = omega (arith) in
    let most : number ≤ 16 = omega (arith, c.requires) in
    let at : c.args.place ≡ number - 1 = omega (arith) in
    let found = found_at c.self.inside.bays.items number c.args.place c.index_mut.result.now least most
    c.self.invariant at c.index_mut.ensures.value in
    let changed = changed_at c.self.inside.bays.items number c.args.place (Some c.write_out.new.self) least most
    c.self.invariant at in
    some_turn g.D.Disk.state _ _ c.in-Some.bay c.write_out.new.self
    (ap (λ (h : HeldState g.row.D.Denot). bay_at h.bays number) (sym c.self.view_is) ∙ found ∙ c.in-Some.is)
    changed.here c.write_out.ensures.turns

pub returns-clause-others : goal.returns-clause-others
returns-clause-others g c = λ other apart.
    let number = c.args.place + 1 in
    let least : 1 ≤ number = omega (arith) in
    let most : number ≤ 16 = omega (arith, c.requires) in
    let at : c.args.place ≡ number - 1 = omega (arith) in
    let changed = changed_at c.self.inside.bays.items number c.args.place (Some c.write_out.new.self) least most
    c.self.invariant at in
    changed.elsewhere other apart ∙ ap (λ (h : HeldState g.row.D.Denot). bay_at h.bays other) c.self.view_is

pub returns-clause-err : goal.returns-clause-err
returns-clause-err g c =
    let number = c.args.place + 1 in
    let least : 1 ≤ number = omega (arith) in
    let most : number ≤ 16 = omega (arith, c.requires) in
    let at : c.args.place ≡ number - 1 = omega (arith) in
    let changed = changed_at c.self.inside.bays.items number c.args.place (Some c.write_out.new.self) least most
    c.self.invariant at in
    on_failed g.D.Disk.state c.write_out.result _ c.write_out.new.self changed.here c.write_out.ensures.err
