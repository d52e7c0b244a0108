use Rattle.aptpl_store.specs.NotedStates.{with_state}
use Rattle.aptpl_store.proofs.noted.Noted.with_state.Given as goal

abbrev pub ghost-note : goal.ghost-note
ghost-note a = with_state a._from.now.0.now.notes a._from.now.1.now
