use Rattle.split_runs.proofs.MoveLemmas.{in_step, joined_empty}
use Rattle.split_runs.proofs.moves.take_in.Goals as goal

pub load-loaded-requires : goal.load-loaded-requires
load-loaded-requires g c =
    record { empty = joined_empty g.D.Disk.state _ _ _ _ c.join-bay.ensures c.requires.empty }

pub returns : goal.returns
returns g c =
    let back = c.known-2.ensures in
    in_step g.D.Disk.state _ _ _ _ _ _ _ c.join-bay.ensures c.part-hosts.ensures c.known.ensures.keeps
    (record { cartridge = back.cartridge; follows = back.follows; within = back.within }) c.args.cartridge
    c.load-loaded.result c.load-loaded.ensures.taken
