use Rattle.bay_moves.proofs.OneHostLemmas.{one_host_of}
use Rattle.bay_moves.proofs.RunKeepsLemmas.{run_keeps}
use Rattle.bay_moves.proofs.runs.run_held.Goals as goal

pub returns-clause-one_host : goal.returns-clause-one_host
returns-clause-one_host g c =
    one_host_of g.D.Disk.state (record {
      steps = c.honest_steps.ensures;
      determined = c.answers_are_determined.ensures.run;
      stay = c.answers_are_determined.ensures.sure;
      runs = c.served_hosts_run.ensures;
      in_order = c.one_host_runs_in_order.ensures.order;
      no_moves = c.one_host_runs_in_order.ensures.moves;
    }) c.args.held.now _ _ _ _ c.run_script.result c.run_script.ensures.runs

pub returns-clause-keeps : goal.returns-clause-keeps
returns-clause-keeps g c =
    run_keeps g.D.Disk.state c.a_stop_keeps_acknowledged_changes_of_what_is_moved.ensures.acknowledged
    c.a_stop_keeps_acknowledged_changes_of_what_is_moved.ensures.safe _ c.args.held.now _ _ _ _ c.run_script.result
