use Rattle.std.proofs.Common.{◌≡◌, false, ◌∷◌, string_bytes, refl, sym, ◌∙◌}
use Rattle.vtl_config.specs.Keys.{is_one_of}
use Rattle.vtl_config.proofs.KeyLemmas.{list_all-keys}
use Rattle.vtl_config.proofs.keys.has_only.Goals as goal

pub returns-then-not-is_one_of : goal.returns-then-not-is_one_of
returns-then-not-is_one_of c =
    let other : is_one_of c.args.keys.now (string_bytes c.in-Some.name.now) ≡ false =
    rw (← c.as_str.ensures.value) (sym c.is_one_of.ensures ∙ c.if-not-is_one_of.true) in
    let left : c.loop-name.name-iterator ≡ c.in-Some.name.now ∷ c.next.new.self = c.in-Some.ensures.steps in
    sym (list_all-keys (is_one_of c.args.keys.now) c.args.table.now.entries
    ∙ c.loop-name.invariant.left ∙ rw (left, other) refl)

pub returns : goal.returns
returns c =
    sym (list_all-keys (is_one_of c.args.keys.now) c.args.table.now.entries
    ∙ c.loop-name.invariant.left ∙ rw c.in-None.ensures.steps.0 refl)
