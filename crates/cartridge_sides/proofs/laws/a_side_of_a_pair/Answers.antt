use Rattle.cartridge_sides.specs.Roles.{counted_stands, sides_damaged, sides_stand}
use Rattle.cartridge_sides.proofs.laws.a_side_of_a_pair.Goals as goal

pub returns : goal.returns
returns c = record { stands = sides_stand; counts = counted_stands; damaged = sides_damaged }
