use Rattle.vtl_config.proofs.BreakLemmas.{nothing_is_broken}
use Rattle.vtl_config.proofs.laws.a_configuration_breaks_no_rule.Goals as goal

pub returns : goal.returns
returns c = nothing_is_broken
