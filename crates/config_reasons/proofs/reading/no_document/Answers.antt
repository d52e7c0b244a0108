use Rattle.config_reasons.proofs.ReasonLemmas.{document_refused}
use Rattle.config_reasons.proofs.reading.no_document.Goals as goal

pub returns-in-Ok : goal.returns-in-Ok
returns-in-Ok c =
    document_refused c.args.text.now c.no_table.result c.in-Ok.ensures.cases.1
    (rw c.in-Ok.ensures.cases.0 at c.no_table.ensures)
