use Rattle.std.proofs.Common.{◌∙◌, ap, sym, arith, length, List, Option, sum_by, subst}
use Rattle.std.proofs.lemmas.List.{take_all}
use Rattle.std.specs.List.{All}
use Rattle.bay_moves.specs.Elements.{BayState}
use Rattle.library.specs.Counts.{AcceptedNone, one_if_there}
use Rattle.test_gates.proofs.FreshLemmas.{at_most_one, counts_fit, one_more}
use Rattle.test_gates.proofs.opening.count_fresh.Goals as goal

pub overflow_add-count : goal.overflow_add-count
overflow_add-count g c =
    counts_fit c.loop-bay.bay-index c.loop-bay.count c.in_ok-more.more (one_if_there c.bay-item.result)
    (length c.args.bays.now) c.loop-bay.invariant.few c.loop-bay-test.true c.if-bays-ne16.false
    c.in_ok-more.ensures.count (at_most_one c.bay-item.result)

pub loop-bay-preserved : goal.loop-bay-preserved
loop-bay-preserved g c =
    one_more c.args.bays.now c.loop-bay.bay-index c.loop-bay.count c.in_ok-more.more c.bay-item.result
    c.loop-bay-test.true c.bay-item.is c.in_ok-more.ensures.count c.in_ok-more.ensures.fresh c.loop-bay.invariant

pub returns-clause-count : goal.returns-clause-count
returns-clause-count g c =
    sym c.loop-bay.invariant.filled
    ∙ ap (λ (row : List (Option (BayState g.row.D.Denot))). sum_by one_if_there row)
    (take_all c.loop-bay.bay-index c.args.bays.now (omega (arith, c.loop-bay-test.false)))

pub returns-clause-fresh : goal.returns-clause-fresh
returns-clause-fresh g c =
    subst (λ (row : List (Option (BayState g.row.D.Denot))). All (λ bay. AcceptedNone bay) row)
    (take_all c.loop-bay.bay-index c.args.bays.now (omega (arith, c.loop-bay-test.false))) c.loop-bay.invariant.fresh
