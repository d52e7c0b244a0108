use Rattle.std.proofs.Common.{◌≤◌, ◌∙◌, ap, sym, subst, Some, set, arith}
use Rattle.bay_moves.specs.Elements.{BayState, Becomes, HeldState, bay_at}
use Rattle.bay_moves.proofs.BayLemmas.{changed_at, nothing}
use Rattle.bay_moves.proofs.held.Held.install.Goals as goal

pub returns-clause-ok : goal.returns-clause-ok
returns-clause-ok g c =
    let least : 1 ≤ c.args.number = omega (arith, c.number.ensures.value, c.number.ensures.range.0) in
    let most : c.args.number ≤ 16 = omega (arith, c.number.ensures.value, c.number.ensures.range.1) in (
      nothing (bay_at c.args.self.now.bays c.args.number) (sym c.configured.ensures ∙ c.if-configured.false),
      subst (λ (b : BayState g.row.D.Denot). Becomes c.args.number (Some c.args.bay) c.args.self.now.bays
          (set c.self.inside.bays.items c.place.result (Some b))) (sym c.insert.ensures.value)
          (subst (λ (h : HeldState g.row.D.Denot). Becomes c.args.number (Some c.args.bay) h.bays
          (set c.self.inside.bays.items c.place.result (Some c.args.bay))) c.self.view_is
          (changed_at c.self.inside.bays.items c.args.number c.place.result (Some c.args.bay) least most
          c.self.invariant c.place.ensures.place)),
      ap (λ (h : HeldState g.row.D.Denot). h.slots) c.self.view_is,
    )
