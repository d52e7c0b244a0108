use Rattle.std.proofs.Common.{inr, rules, take}
use Rattle.gate_journal.proofs.AskedLemmas.{begins_parsed}
use Rattle.gate_journal.proofs.reading.find_kind.Goals as goal

pub returns-in-Some-clause-answer : goal.returns-in-Some-clause-answer
returns-in-Some-clause-answer g c =
    let found = c.in_ok-found.ensures.answer in
    let bytes = take c.in_ok-found.found.len c.in_ok-found.found.bytes in
    let parsed = c.in_ok-found.parsed in (
      found.0,
      λ honest.
          let begins = found.3 honest in
          rw c.in-Some.is (inr (
            parsed.kind,
            search rules,
            begins_parsed bytes parsed begins.0 (g.D.Disk.state c.args.disk.now).seen found.2 begins.1,
          )),
    )
