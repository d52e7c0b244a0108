use Rattle.std.proofs.Common.{◌≡◌, None, rules, sym, refl}
use Rattle.toml.specs.Data.{integer}
use Rattle.toml.specs.View.{view}
use Rattle.vtl_config.specs.Values.{natural_of, other_kind, out_of_range}
use Rattle.vtl_config.proofs.ValueLemmas.{integer_value, below_zero}
use Rattle.vtl_config.proofs.values.number_at.Goals as goal

pub returns-in-None-natural_of-clause-err : goal.returns-in-None-natural_of-clause-err
returns-in-None-natural_of-clause-err c =
    let is_integer : view c.in-Some.value.now ≡ integer c.in-Some-as_integer.found =
    integer_value _ _ (sym c.in-Some-as_integer.ensures) in
    let below : natural_of c.in-Some-as_integer.found ≡ None = search rules in
    out_of_range (view c.in-Some.value.now) refl (sym c.in-Some.ensures)
    (rw (c.requires, ← c.in-Some-as_integer.ensures) refl)
    (rw is_integer (below_zero c.args.key _ c.requires below))

pub returns-in-None-as_integer-clause-err : goal.returns-in-None-as_integer-clause-err
returns-in-None-as_integer-clause-err c =
    other_kind (view c.in-Some.value.now) refl (sym c.in-Some.ensures)
    (rw (c.requires, ← c.in-None-as_integer.ensures) refl)
