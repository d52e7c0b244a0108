use Rattle.std.proofs.Common.{sym, subst}
use Rattle.tape_disk.specs.declared.memory.MemDisk.{MemDisk}
use Rattle.vtl_power_on.specs.Sides.{memory_state}
use Rattle.vtl_power_on.specs.Starting.{IsBuiltIn, built_in_barcode, built_in_capacities}
use Rattle.vtl_power_on.specs.Unfinished.{StartingState}
use Rattle.vtl_power_on.proofs.starting.built_in.Goals as goal

pub returns-in-Ok : goal.returns-in-Ok
returns-in-Ok c =
    subst (λ (s : StartingState MemDisk). IsBuiltIn memory_state built_in_barcode built_in_capacities s.held)
    (sym c.starting.view_is) c.in-Ok.ensures.ok
