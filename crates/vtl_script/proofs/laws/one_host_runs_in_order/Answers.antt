use Rattle.vtl_script.proofs.InOrderLemmas.{one_host_in_order, no_move_is_run}
use Rattle.vtl_script.proofs.laws.one_host_runs_in_order.Goals as goal

pub returns : goal.returns
returns c = record { order = one_host_in_order; moves = no_move_is_run }
