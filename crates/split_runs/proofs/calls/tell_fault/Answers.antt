use Rattle.std.proofs.Common.{refl}
use Rattle.split_runs.proofs.calls.tell_fault.Goals as goal

pub returns : goal.returns
returns g c =
    let back = c.known-2.ensures in
    λ waiting. record {
      reports = c.tell.ensures;
      made_is = refl;
      waiting = refl;
      front = c.known.ensures.keeps;
      back = record { cartridge = back.cartridge; follows = back.follows; within = back.within };
    }
