use Rattle.tape_disk.proofs.Steps.{not_cut}
use Rattle.tape_disk.proofs.failing.Failing.cut.Goals as goal

pub returns-then-not-passes-clause-cuts : goal.returns-then-not-passes-clause-cuts
returns-then-not-passes-clause-cuts g c = λ honest.
    let same = c.refuse.ensures.same honest in
    not_cut _ _ (record { seen = same.seen; crash = same.crash }) c.refuse.result c.args.len
