use Rattle.std.proofs.Common.{refl, sym, ◌∙◌}
use Rattle.toml.specs.View.{view}
use Rattle.vtl_config.specs.Values.{other_kind, out_of_range}
use Rattle.vtl_config.proofs.CapacityLemmas.{list_kind, no_list_kind, not_within}
use Rattle.vtl_config.proofs.capacities.capacities_at.Goals as goal

pub returns-in-None-capacities_of-clause-err : goal.returns-in-None-capacities_of-clause-err
returns-in-None-capacities_of-clause-err c =
    let value = view c.in-Some.value.now in
    let is_list = sym c.in-Some-as_array.ensures in
    out_of_range value refl (sym c.in-Some.ensures)
    (list_kind value c.in-Some-as_array.items.now.items c.as_slice.result.now is_list c.as_slice.ensures.value
    ∙ (sym c.are_integers.ensures ∙ c.if-not-are_integers.false))
    (not_within value c.in-Some-as_array.items.now.items c.as_slice-in-Some-as_array.result.now is_list
    c.as_slice-in-Some-as_array.ensures.value
    c.in-None-capacities_of.ensures)

pub returns-then-not-are_integers-clause-err : goal.returns-then-not-are_integers-clause-err
returns-then-not-are_integers-clause-err c =
    let value = view c.in-Some.value.now in
    other_kind value refl (sym c.in-Some.ensures)
    (list_kind value c.in-Some-as_array.items.now.items c.as_slice.result.now (sym c.in-Some-as_array.ensures)
    c.as_slice.ensures.value ∙ (sym c.are_integers.ensures ∙ c.if-not-are_integers.true))

pub returns-in-None-as_array-clause-err : goal.returns-in-None-as_array-clause-err
returns-in-None-as_array-clause-err c =
    other_kind (view c.in-Some.value.now) refl (sym c.in-Some.ensures)
    (no_list_kind (view c.in-Some.value.now) (sym c.in-None-as_array.ensures))
