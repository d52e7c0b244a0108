use Rattle.tape_disk.proofs.Steps.{not_written}
use Rattle.tape_disk.proofs.failing.Failing.write_at.Goals as goal

pub returns-then-not-passes-clause-writes : goal.returns-then-not-passes-clause-writes
returns-then-not-passes-clause-writes g c = λ honest.
    let same = c.refuse.ensures.same honest in
    not_written _ _ (record { seen = same.seen; crash = same.crash }) c.refuse.result c.args.at c.args.bytes.now
