use Rattle.std.proofs.Common.{rules, arith}
use Rattle.vtl_serve.proofs.LabelLemmas.{carried_all, carried_more}
use Rattle.vtl_serve.proofs.labels.carry_among.Goals as goal

pub loop-label-preserved : goal.loop-label-preserved
loop-label-preserved c =
    carried_more c.args.from c.args.to c.args.labels.now c.loop-label.label-items c.loop-label.label-index
    c.label-item.result c.address_after-label.result
    (omega (arith, c.loop-label-test.true, c.loop-label.auto.label-items, c.loop-label.auto.label-index-end))
    c.address_after-label.ensures c.loop-label.invariant

pub returns : goal.returns
returns c =
    carried_all c.args.from c.args.to c.args.labels.now c.loop-label.label-items
    (search rules)
    (λ k d less. c.loop-label.invariant.done k d
    (omega (arith, less, c.loop-label-test.false, c.loop-label.auto.label-index-end)))
