use Rattle.std.proofs.Common.{ap, sym, ◌∙◌}
use Rattle.std.proofs.lemmas.Result.{IfOk-weaker, IfErr-weaker}
use Rattle.clap.specs.Simple.{subcommand_rows_of}
use Rattle.vtl_words.specs.Orders.{order_from, texts_of}
use Rattle.vtl_words.proofs.LineLemmas.{nothing_refused}
use Rattle.vtl_words.proofs.reading.read_words.Goals as goal

pub returns-clause-ok : goal.returns-clause-ok
returns-clause-ok c =
    IfOk-weaker c.order_in.result _ _
    (λ order asked. record {
      no_fault = c.in-Ok.ensures.no_fault;
      matches = sym (ap order_from c.in-Ok.ensures.ok) ∙ asked.0;
      form = asked.1;
    })
    c.order_in.ensures.ok

pub returns-clause-err : goal.returns-clause-err
returns-clause-err c =
    IfErr-weaker c.order_in.result _ _
    (λ error nothing.
    nothing_refused (texts_of c.args.words.now) (order_from (subcommand_rows_of c.in-Ok.matches)) error
    c.in-Ok.ensures.no_fault (ap order_from c.in-Ok.ensures.ok) nothing)
    c.order_in.ensures.err
