use Rattle.std.proofs.Common.{◌≤◌, ◌∙◌, ap, sym, arith}
use Rattle.bay_moves.specs.Elements.{HeldState, bay_at}
use Rattle.bay_moves.proofs.BayLemmas.{bay_is, found_at, no_slot}
use Rattle.bay_moves.proofs.held.Held.command.Goals as goal

pub unreachable-requires : goal.unreachable-requires
unreachable-requires g c =
    let bays_are = ap (λ (h : HeldState g.row.D.Denot). h.bays) c.self.view_is in
    let least : 1 ≤ c.args.drive = omega (arith, c.number.ensures.value, c.number.ensures.range.0) in
    let most : c.args.drive ≤ 16 = omega (arith, c.number.ensures.value, c.number.ensures.range.1) in
    let found = found_at c.self.inside.bays.items c.args.drive c.place.result c.index_mut.result.now least most
    c.self.invariant c.place.ensures.place c.index_mut.ensures.value in
    let there = rw (sym bays_are, found, c.in-None.is) at c.requires in
    absurd (cc)

pub returns : goal.returns
returns g c =
    let least : 1 ≤ c.args.drive = omega (arith, c.number.ensures.value, c.number.ensures.range.0) in
    let most : c.args.drive ≤ 16 = omega (arith, c.number.ensures.value, c.number.ensures.range.1) in
    let found = found_at c.self.inside.bays.items c.args.drive c.place.result c.index_mut.result.now least most
    c.self.invariant c.place.ensures.place c.index_mut.ensures.value in
    record {
      bay = c.in-Some.bay;
      is =
          ap (λ (h : HeldState g.row.D.Denot). bay_at h.bays c.args.drive) (sym c.self.view_is)
          ∙ found ∙ c.in-Some.is;
      left = c.execute.new.self;
      step = c.execute.ensures.moments.step;
      settled = c.execute.ensures.settled;
      number_is = no_slot c.args.drive most;
      keeps = c.known.ensures.keeps.cartridge;
      positioned = c.known.ensures.positioned;
      moments = c.execute.ensures.moments.moments;
      safe = c.execute.ensures.safe;
      now =
          bay_is c.self.inside.slots c.self.inside.bays.items c.args.drive c.place.result c.execute.new.self
          c.args.self.now c.self.view_is least most c.self.invariant c.place.ensures.place;
    }
