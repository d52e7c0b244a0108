use Rattle.aptpl_store.specs.NotedStates.{no_notes}
use Rattle.aptpl_store.proofs.noted.Noted.none.Given as goal

abbrev pub ghost-note : goal.ghost-note
ghost-note a = no_notes
