use Rattle.std.proofs.Common.{refl}
use Rattle.split_runs.proofs.StepLemmas.{parts_again}
use Rattle.split_runs.proofs.calls.turn_both.Goals as goal

pub returns : goal.returns
returns g c =
    let done = c.settle_both-turn in
    let back = c.known-2.ensures in
    λ waiting. record {
      settles = done.ensures;
      made_is = refl;
      parts =
          parts_again g.D.Disk.state done.new.front done.new.back c.known.ensures.keeps
          (record { cartridge = back.cartridge; follows = back.follows; within = back.within });
    }
