use Rattle.std.proofs.Common.{◌∙◌, inr, refl, sym}
use Rattle.vtl_files.proofs.configs.config_to_open.Goals as goal

pub returns-then-names_nul : goal.returns-then-names_nul
returns-then-names_nul g c = inr (
  refl,
  (
    c.in-Ok.config,
    c.in-Ok.ensures,
    sym c.names_nul.ensures ∙
        c.if-names_nul.true,
  ),
)
