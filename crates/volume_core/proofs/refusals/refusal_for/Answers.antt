use Rattle.std.proofs.Common.{arith, inl, inr, sym, true, false}
use Rattle.volume_core.specs.Medium.{volume_of}
use Rattle.volume_core.proofs.RefusalLemmas.{by_form, lacks_room}
use Rattle.volume_core.proofs.refusals.refusal_for.Goals as goal
use Rattle.volume_core.proofs.refusals.refusal_for.Goals.{then-demand-at-via-then-demand-at, then-demand-at-via-else-demand-at+then-demand-left}

pub returns-then-demand-at : goal.returns-then-demand-at
returns-then-demand-at g c = λ change here stays asks.
    sym (lacks_room (volume_of (g.C.Catalog.state c.args.catalog.now)) change c.args.part c.args.at c.args.demand here
    stays asks
    (omega (arith, c.if-part-parts.false, c.parts.ensures.parts))
    (omega (arith, c.if-at-count.false, c.count.ensures.count))
    (elim c.then-demand-at.branch [
      | then-demand-at-via-then-demand-at w ↦ inl (omega (arith, w.if-demand-at.true))
      | then-demand-at-via-else-demand-at+then-demand-left w ↦
          inr (omega (arith, w.if-demand-left.true, c.capacity.ensures.capacity, c.used.ensures.used))
    ]))

pub returns-then-not-demand : goal.returns-then-not-demand
returns-then-not-demand g c = λ change here stays asks.
    sym (by_form (volume_of (g.C.Catalog.state c.args.catalog.now)) change c.args.part c.args.at c.args.demand here
    stays asks
    (omega (arith, c.if-part-parts.false, c.parts.ensures.parts))
    (omega (arith, c.if-at-count.false, c.count.ensures.count))
    (omega (arith, c.if-demand-at.false, c.if-at-count.false, c.count.ensures.bound))
    (omega (arith, c.if-demand-left.false, c.capacity.ensures.capacity, c.used.ensures.used, c.used.ensures.bound))
    true c.if-not-demand.true)

pub returns : goal.returns
returns g c = λ change here stays asks.
    sym (by_form (volume_of (g.C.Catalog.state c.args.catalog.now)) change c.args.part c.args.at c.args.demand here
    stays asks
    (omega (arith, c.if-part-parts.false, c.parts.ensures.parts))
    (omega (arith, c.if-at-count.false, c.count.ensures.count))
    (omega (arith, c.if-demand-at.false, c.if-at-count.false, c.count.ensures.bound))
    (omega (arith, c.if-demand-left.false, c.capacity.ensures.capacity, c.used.ensures.used, c.used.ensures.bound))
    false c.if-not-demand.false)
