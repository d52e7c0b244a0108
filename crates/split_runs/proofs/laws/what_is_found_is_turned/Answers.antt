use Rattle.split_runs.proofs.FoundLemmas.{found_as_it_was, found_turned}
use Rattle.split_runs.proofs.laws.what_is_found_is_turned.Goals as goal

pub returns-clause-loaded : goal.returns-clause-loaded
returns-clause-loaded c = found_turned

pub returns-clause-other : goal.returns-clause-other
returns-clause-other c = found_as_it_was
