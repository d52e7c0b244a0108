use Rattle.volume_copy.specs.OrderFacts.{copy_whole}
use Rattle.volume_copy.proofs.laws.no_run_is_cut.Goals as goal

pub returns : goal.returns
returns c = copy_whole
