use Rattle.std.proofs.Common.{◌≡◌, [], ◌∙◌, ap, subst}
use Rattle.clap.specs.Faults.{fault_of, is_simple_and_free}
use Rattle.clap.specs.Kinds.{HasKind}
use Rattle.clap.specs.Simple.{App}
use Rattle.clap.specs.Values.{kind_of}
use Rattle.vtl_words.specs.Commands.{vtl_command}
use Rattle.vtl_words.specs.Orders.{texts_of}
use Rattle.vtl_words.proofs.LineLemmas.{line_is_free, reported_refused}
use Rattle.vtl_words.proofs.reading.parsed.Goals as goal

pub returns-in-Err-try_get_matches_from-clause-err : goal.returns-in-Err-try_get_matches_from-clause-err
returns-in-Err-try_get_matches_from-clause-err c =
    let error = c.in-Err-try_get_matches_from.error in
    let words = texts_of c.args.words.now in
    let has = c.in-Err-try_get_matches_from.ensures.kinds (ap is_simple_and_free c.in-Ok.ensures ∙ line_is_free) in
    let kinds : HasKind (fault_of vtl_command words) error =
    subst (λ (app : App). HasKind (fault_of app words) error) c.in-Ok.ensures has in
    reported_refused words (kind_of error) c.parser_error.result c.parser_error.ensures kinds

pub returns-in-Ok-try_get_matches_from-clause-no_fault : goal.returns-in-Ok-try_get_matches_from-clause-no_fault
returns-in-Ok-try_get_matches_from-clause-no_fault c =
    let none = c.in-Ok-try_get_matches_from.ensures.kinds (ap is_simple_and_free c.in-Ok.ensures ∙ line_is_free) in
    subst (λ (app : App). fault_of app (texts_of c.args.words.now) ≡ []) c.in-Ok.ensures none
