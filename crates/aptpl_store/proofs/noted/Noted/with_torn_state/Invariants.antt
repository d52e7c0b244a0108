use Rattle.aptpl_store.specs.NotedStates.{with_torn_state}
use Rattle.aptpl_store.proofs.noted.Noted.with_torn_state.Given as goal

abbrev pub ghost-note : goal.ghost-note
ghost-note a = with_torn_state a._from.now.0.now.notes a._from.now.1.now
