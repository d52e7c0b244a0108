use Rattle.std.proofs.Common.{◌≤◌, ◌+◌, ◌-◌, ◌==◌, drop, length, length-drop, filter, ap, sym, ◌∙◌, arith}
use Rattle.std.proofs.lemmas.List.{take_all}
use Rattle.vtl_script.specs.Lines.{is_some_byte}
use Rattle.vtl_script.proofs.SplitLemmas.{split_at, split_whole, no_last_field}
use Rattle.vtl_script.proofs.lines.cut.Goals as goal

pub returns-in-Some-clause-fields : goal.returns-in-Some-clause-fields
returns-in-Some-clause-fields c =
    let text = c.args.text.now in
    let end = c.in-Some.end in
    let short : length (drop (end + 1) text) ≤ length text - (end + 1) = omega (arith, length-drop (end + 1) text) in
    rw (take_all (length text - (end + 1)) (drop (end + 1) text) short)
    (ap (filter is_some_byte) (split_at (λ byte. byte == 32) text end (sym c.place_of.ensures.place ∙ c.in-Some.is)))

pub returns-in-None-clause-fields : goal.returns-in-None-clause-fields
returns-in-None-clause-fields c =
    let text = c.args.text.now in
    ap (filter is_some_byte) (split_whole (λ byte. byte == 32) text (sym c.place_of.ensures.place ∙ c.in-None.is))
    ∙ no_last_field text
