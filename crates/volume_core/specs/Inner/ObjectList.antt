-- A row of objects with what they take up to each place.
use Rattle.std.specs.Prelude.{◌≡◌, ◌<◌, ℕ, ◌+◌, List, length, take, slice_index}
use Rattle.volume_core.specs.declared.objects.Object.{Object}
use Rattle.volume_core.specs.Volume.{used_of}

-- each number is how many bytes the objects up to its place take, that one included (own)
pub record IsTally (objects : List Object) (costs : List ℕ) : Type 0 where
  pub one_each : length costs ≡ length objects
  pub up_to : (k : ℕ) → k < length objects → slice_index costs k ≡ used_of (take (k + 1) objects)
