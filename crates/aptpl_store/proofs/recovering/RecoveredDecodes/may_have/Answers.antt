use Rattle.std.proofs.Common.{◌<◌, arith}
use Rattle.std.proofs.lemmas.Bool.Decides.{nat_tests}
use Rattle.aptpl_store.proofs.OpeningLemmas.{too_long}
use Rattle.aptpl_store.proofs.recovering.RecoveredDecodes.may_have.Goals as goal

pub returns : goal.returns
returns c = λ no body sized.
    let long : 580 < c.args.size = grind (arith, nat_tests, no) in
    too_long body (omega (arith, long, sized))
