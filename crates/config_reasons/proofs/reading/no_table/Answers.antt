use Rattle.config_reasons.proofs.ReasonLemmas.{table_refused}
use Rattle.config_reasons.proofs.reading.no_table.Goals as goal

pub returns : goal.returns
returns c =
    table_refused c.args.text.now c.in-Err.error c.refused_at.result c.in-Err.ensures.refused c.refused_at.ensures
