use Rattle.drive_theorems.proofs.DeterminedLemmas.{steps_determined}
use Rattle.drive_theorems.proofs.DeterminedRuns.{runs_determined, runs_stay_sure}
use Rattle.drive_theorems.proofs.laws.answers_are_determined.Goals as goal

pub returns-clause-step : goal.returns-clause-step
returns-clause-step c =
    steps_determined c.each_space_has_one_end.ensures.one c.each_locate_has_one_end.ensures.one
    c.each_order_has_one_end.ensures.one

pub returns-clause-run : goal.returns-clause-run
returns-clause-run c =
    runs_determined
    (steps_determined c.each_space_has_one_end.ensures.one c.each_locate_has_one_end.ensures.one
    c.each_order_has_one_end.ensures.one)

pub returns-clause-sure : goal.returns-clause-sure
returns-clause-sure c =
    runs_stay_sure
    (steps_determined c.each_space_has_one_end.ensures.one c.each_locate_has_one_end.ensures.one
    c.each_order_has_one_end.ensures.one)
