use Rattle.cartridge.specs.Inner.Answered.{answered}
use Rattle.cartridge.proofs.laws.each_pair_is_answered.Goals as goal

pub returns : goal.returns
returns c = answered
