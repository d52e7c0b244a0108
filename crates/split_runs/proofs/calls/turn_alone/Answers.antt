use Rattle.std.proofs.Common.{refl}
use Rattle.split_runs.proofs.calls.turn_alone.Goals as goal

pub returns : goal.returns
returns g c =
    let back = c.known.ensures in
    λ front waiting left ring. record {
      turns = c.turn-turn.ensures;
      front = refl;
      ring = ring;
      made_is = refl;
      keeps = record { cartridge = back.cartridge; follows = back.follows; within = back.within };
    }
