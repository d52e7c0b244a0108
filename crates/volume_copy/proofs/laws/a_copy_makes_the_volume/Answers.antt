use Rattle.volume_copy.specs.CopyFacts.{copy_makes}
use Rattle.volume_copy.proofs.laws.a_copy_makes_the_volume.Goals as goal

pub returns : goal.returns
returns c = copy_makes
