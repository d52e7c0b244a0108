use Rattle.std.proofs.Common.{◌≡◌, Some}
use Rattle.std.proofs.lemmas.Result.{IfErr-weaker}
use Rattle.toml.specs.Parse.{parse_document}
use Rattle.toml.specs.View.{table_view}
use Rattle.vtl_config.specs.Configs.{RefusesText}
use Rattle.vtl_config.specs.Inner.Found.{TableRefused}
use Rattle.vtl_config.proofs.EntryLemmas.{text_refused}
use Rattle.vtl_config.proofs.reading.read_config.Goals as goal

pub returns-in-Ok-table_from_str-clause-err : goal.returns-in-Ok-table_from_str-clause-err
returns-in-Ok-table_from_str-clause-err c =
    let root = table_view c.in-Ok-table_from_str.table in
    let parsed : parse_document c.args.text.now ≡ Some root =
    rw (← c.in-Ok.ensures.cases.0) c.in-Ok-table_from_str.ensures.ok in
    IfErr-weaker c.read_table.result (TableRefused root) (RefusesText c.args.text.now)
    (λ error why. text_refused c.args.text.now root error c.in-Ok.ensures.cases.1 parsed why) c.read_table.ensures.err
