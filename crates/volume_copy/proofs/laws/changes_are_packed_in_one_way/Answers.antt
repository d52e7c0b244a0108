use Rattle.volume_copy.specs.FrameFacts.{packed_once}
use Rattle.volume_copy.specs.Frames.{change_size}
use Rattle.volume_copy.proofs.laws.changes_are_packed_in_one_way.Goals as goal

pub returns : goal.returns
returns c = packed_once change_size
