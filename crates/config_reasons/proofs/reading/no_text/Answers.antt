use Rattle.std.proofs.Common.{ap, arith}
use Rattle.config_reasons.specs.declared.reasons.Found.TheVariants.{NoText}
use Rattle.config_reasons.proofs.reading.no_text.Goals as goal

pub returns-in-Err : goal.returns-in-Err
returns-in-Err c = (
  c.valid_up_to.result,
  ap NoText c.spot_at.ensures,
  omega (arith, c.in-Err.ensures.cases.1.short, c.valid_up_to.ensures),
  rw c.valid_up_to.ensures c.in-Err.ensures.cases.1.front,
  rw c.valid_up_to.ensures c.in-Err.ensures.cases.1.longest,
)
