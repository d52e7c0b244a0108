use Rattle.vtl_power_on.proofs.starting.built_in_cartridge.Goals as goal

pub returns-clause-ok : goal.returns-clause-ok
returns-clause-ok c = rw c.in-Ok.ensures.value at c.new_cartridge.ensures.ok
