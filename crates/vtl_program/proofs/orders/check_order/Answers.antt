use Rattle.std.proofs.Common.{Ok}
use Rattle.vtl_program.proofs.orders.check_order.Goals as goal

pub returns : goal.returns
returns g c = (Ok c.in_ok-config.config, c.in_ok-config.ensures, c.check_config.ensures)
