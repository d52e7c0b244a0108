use Rattle.vtl_power_on.proofs.SidesLemmas.{memory_is_failure}
use Rattle.vtl_power_on.proofs.sides.NewSidesSidesMemDisk.cartridge.Goals as goal

pub returns-clause-ok : goal.returns-clause-ok
returns-clause-ok c = rw c.slice_of.ensures.value at c.new_cartridge.ensures.ok

pub returns-clause-failure : goal.returns-clause-failure
returns-clause-failure c = memory_is_failure c.new_cartridge.result c.new_cartridge.ensures.err
