use Rattle.std.proofs.Common.{◌∙◌, ap, sym, arith, List, Option, sum_by, true, false}
use Rattle.std.proofs.lemmas.List.{take_all}
use Rattle.bay_moves.specs.Elements.{BayState}
use Rattle.library.specs.Counts.{one_if_there}
use Rattle.vtl_power_on.proofs.UsingLemmas.{counted_more}
use Rattle.vtl_power_on.proofs.using.count_drives.Goals as goal
use Rattle.vtl_power_on.proofs.using.count_drives.Goals.{then-is_some, else-is_some}

pub loop-bay-preserved : goal.loop-bay-preserved
loop-bay-preserved g c =
    let at = c.loop-bay in
    elim c.if-is_some.branch [
      | then-is_some w ↦ rw w.count-is (record {
        counted =
            counted_more c.args.bays.now at.bay-index at.count c.bay-item.result true c.loop-bay-test.true
            c.bay-item.is (sym w.if-is_some.true ∙ c.is_some.ensures) at.invariant.counted;
        few = omega (arith, at.invariant.few);
      })
      | else-is_some w ↦ rw w.count-is (record {
        counted =
            let same = counted_more c.args.bays.now at.bay-index at.count c.bay-item.result false
            c.loop-bay-test.true c.bay-item.is (sym w.if-is_some.false ∙ c.is_some.ensures) at.invariant.counted in
            omega (arith, same);
        few = omega (arith, at.invariant.few);
      })
    ]

pub returns : goal.returns
returns g c =
    c.loop-bay.invariant.counted
    ∙ ap (λ (row : List (Option (BayState g.row.D.Denot))). sum_by one_if_there row)
    (take_all c.loop-bay.bay-index c.args.bays.now (omega (arith, c.loop-bay-test.false)))
