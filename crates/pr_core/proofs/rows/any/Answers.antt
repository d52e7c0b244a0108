use Rattle.std.proofs.Common.{◌≡◌, arith, sym}
use Rattle.pr_core.specs.Sets.{IsNexus}
use Rattle.pr_core.proofs.SetLemmas.{none_in, some_in}
use Rattle.pr_core.proofs.rows.any.Goals as goal

pub returns-then-test : goal.returns-then-test
returns-then-test g c = λ set gives.
    let same : c.in-Some.nexus ≡ c.loop-number.number = c.in-Some.ensures.value in
    let is : IsNexus c.in-Some.nexus = (omega arith, omega arith) in
    sym (some_in set c.in-Some.nexus is (sym (gives c.in-Some.nexus _ is c.if-test.ensures)))

pub returns : goal.returns
returns g c = λ set gives.
    sym (none_in set (λ nexus is. sym (gives nexus _ is (c.loop-number.invariant.1 nexus is.0 (omega arith)))))
