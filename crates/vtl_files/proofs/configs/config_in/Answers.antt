use Rattle.vtl_files.proofs.ConfigLemmas.{configured}
use Rattle.vtl_files.proofs.configs.config_in.Goals as goal

pub returns-in-Ok : goal.returns-in-Ok
returns-in-Ok g c =
    configured g.F.TextFiles.reads c.args.name.now c.in-Ok.text c.config_of.result c.in-Ok.ensures
    (rw c.as_slice.ensures.value at c.config_of.ensures.ok) (rw c.as_slice.ensures.value at c.config_of.ensures.err)
