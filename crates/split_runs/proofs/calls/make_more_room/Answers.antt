use Rattle.split_runs.proofs.StepLemmas.{room_step}
use Rattle.split_runs.proofs.calls.make_more_room.Goals as goal

pub returns : goal.returns
returns g c =
    let done = c.make_room-made in
    let back = c.known-2.ensures in
    record {
      step =
          room_step
          g.D.Disk.state c.args.front.now c.args.back.now done.result done.new.front done.new.back done.ensures
          c.known.ensures.keeps (record { cartridge = back.cartridge; follows = back.follows; within = back.within });
      made = done.ensures;
    }
