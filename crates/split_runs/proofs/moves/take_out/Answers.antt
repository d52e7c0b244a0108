use Rattle.split_runs.proofs.MoveLemmas.{out_step}
use Rattle.split_runs.proofs.moves.take_out.Goals as goal

pub returns : goal.returns
returns g c =
    let back = c.known-2.ensures in
    out_step g.D.Disk.state _ _ _ _ _ _ _ c.join-bay.ensures c.part-hosts.ensures c.known.ensures.keeps
    (record { cartridge = back.cartridge; follows = back.follows; within = back.within }) c.unload-out.result
    c.unload-out.ensures.out
