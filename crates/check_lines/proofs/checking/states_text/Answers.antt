use Rattle.std.proofs.Common.{◌++◌, ◌∙◌, List, ℕ, ap}
use Rattle.check_lines.specs.SideText.{store_line}
use Rattle.check_lines.proofs.SideTextLemmas.{states_shown}
use Rattle.check_lines.proofs.checking.states_text.Goals as goal

pub returns : goal.returns
returns g c =
    let line = store_line c.text_of-name.result.now c.frames.result c.registrations.result in
    states_shown c.args.store.now.heading c.args.store.now.states c.args.left.now c.text_of-name.result.now
    c.from_vec.result c.frames.result c.registrations.result
    (λ found no_space padded_is. c.text_of-name.ensures found no_space (c.name.ensures ∙ padded_is))
    c.frames.ensures c.registrations.ensures
    (c.from_vec.ensures ∙ c.in_ok-add_store.ensures ∙ ap (λ (xs : List ℕ). xs ++ line) c.new-text.ensures.items)
