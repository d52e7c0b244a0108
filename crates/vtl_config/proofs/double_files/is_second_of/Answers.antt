use Rattle.std.proofs.Common.{◌≡◌, None, Some, ap, sym, ◌∙◌}
use Rattle.std.proofs.lemmas.Bool.Decides.{Decides-eqb}
use Rattle.std.proofs.lemmas.Slice.Eq.{strip_suffix_is}
use Rattle.std.specs.Str.{bytes_eq}
use Rattle.vtl_config.proofs.DoubleLemmas.{second_found, second_missed}
use Rattle.vtl_config.proofs.double_files.is_second_of.Goals as goal

pub returns-in-Some : goal.returns-in-Some
returns-in-Some c =
    let split =
    strip_suffix_is Decides-eqb c.as_bytes.result.now c.as_bytes-2.result.now (Some c.in-Some.first)
    c.in-Some.ensures.cases in
    let tests : c.eq.result ≡ bytes_eq c.in-Some.first.now c.args.file.now =
    c.eq.ensures ∙ ap (bytes_eq c.in-Some.first.now) c.as_bytes-in-Some.ensures.value in
    second_found c.args.name.now c.args.file.now c.as_bytes-2.result.now c.in-Some.first.now
    c.as_bytes-2.ensures.value (sym c.as_bytes.ensures.value ∙ split) c.eq.result tests

pub returns-in-None : goal.returns-in-None
returns-in-None c =
    let none =
    strip_suffix_is Decides-eqb c.as_bytes.result.now c.as_bytes-2.result.now None c.in-None.ensures.cases in
    second_missed c.args.name.now c.args.file.now c.as_bytes-2.result.now c.as_bytes-2.ensures.value
    (λ front split. none front (c.as_bytes.ensures.value ∙ split))
