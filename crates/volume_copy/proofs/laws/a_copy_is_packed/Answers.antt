use Rattle.volume_copy.specs.PackedFacts.{copy_has_bodies, copy_in_frames, copy_packed}
use Rattle.volume_copy.proofs.laws.a_copy_is_packed.Goals as goal

pub returns : goal.returns
returns c = record { packed = copy_packed; whole = copy_in_frames; bodies = copy_has_bodies }
