use Rattle.std.proofs.Common.{ap}
use Rattle.clap.specs.Simple.{subcommand_rows_of}
use Rattle.vtl_words.specs.Orders.{order_from, texts_of}
use Rattle.vtl_words.proofs.LineLemmas.{reason_refused}
use Rattle.vtl_words.proofs.refusals.WordsReason.of.Goals as goal

pub returns-in-Ok : goal.returns-in-Ok
returns-in-Ok c =
    reason_refused (texts_of c.args.words.now) (order_from (subcommand_rows_of c.in-Ok.matches)) c.form_reason.result
    c.in-Ok.ensures.no_fault (ap order_from c.in-Ok.ensures.ok) c.form_reason.ensures
