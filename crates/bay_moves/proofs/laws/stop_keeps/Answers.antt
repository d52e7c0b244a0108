use Rattle.tape_buffer.specs.Rules.{medium_rules}
use Rattle.bay_moves.specs.Accepted.{order_rules}
use Rattle.bay_moves.proofs.AcceptedLemmas.{stops_keep, stops_keep_through}
use Rattle.bay_moves.proofs.laws.stop_keeps.Goals as goal

pub returns : goal.returns
returns g c = record {
  changes =
      stops_keep_through medium_rules c.what_was_acknowledged_is_kept.ensures c.what_was_acknowledged_begins.ensures;
  orders =
      stops_keep order_rules c.what_was_acknowledged_is_kept-2.ensures c.what_is_kept_begins.ensures
      (λ base other items never. never);
}
