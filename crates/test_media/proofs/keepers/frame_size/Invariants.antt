use Rattle.std.proofs.Common.{◌≡◌, take}
use Rattle.std.specs.Prelude.{count_by, is_some}
use Rattle.test_media.proofs.keepers.frame_size.Given as goal

abbrev pub invariant-loop-key : goal.invariant-loop-key
invariant-loop-key l = l.registered ≡ count_by is_some (take l.key-index l.state.keys)
