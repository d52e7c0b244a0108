use Rattle.vtl_power_on.proofs.SidesLemmas.{memory_is_failure}
use Rattle.vtl_power_on.proofs.sides.NewSidesSidesMemDisk.store.Goals as goal

pub returns-clause-failure : goal.returns-clause-failure
returns-clause-failure c = memory_is_failure c.new_store.result c.new_store.ensures.err
