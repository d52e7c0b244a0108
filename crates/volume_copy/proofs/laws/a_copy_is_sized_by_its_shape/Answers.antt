use Rattle.volume_copy.specs.ShapeFacts.{frames_shaped}
use Rattle.volume_copy.proofs.laws.a_copy_is_sized_by_its_shape.Goals as goal

pub returns : goal.returns
returns c = frames_shaped
