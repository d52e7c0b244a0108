use Rattle.volume_copy.specs.OrderFacts.{copy_spelled}
use Rattle.volume_copy.proofs.laws.a_copy_is_spelled.Goals as goal

pub returns : goal.returns
returns c = copy_spelled
