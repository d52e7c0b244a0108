use Rattle.cartridge.specs.Extending.{volume_since}
use Rattle.cartridge.proofs.laws.a_volume_is_made_since.Goals as goal

pub returns : goal.returns
returns c = volume_since
