use Rattle.std.proofs.Common.{sym, refl}
use Rattle.toml.specs.View.{view}
use Rattle.vtl_config.specs.Values.{other_kind}
use Rattle.vtl_config.proofs.values.text_at.Goals as goal

pub returns-in-None-as_str-clause-err : goal.returns-in-None-as_str-clause-err
returns-in-None-as_str-clause-err c =
    other_kind (view c.in-Some.value.now) refl (sym c.in-Some.ensures)
    (rw (c.requires, ← c.in-None-as_str.ensures) refl)
