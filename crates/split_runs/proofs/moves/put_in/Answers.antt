use Rattle.split_runs.proofs.MoveLemmas.{joined_empty, put_step}
use Rattle.split_runs.proofs.moves.put_in.Goals as goal

pub insert-requires : goal.insert-requires
insert-requires g c =
    record { empty = joined_empty g.D.Disk.state _ _ _ _ c.join-bay.ensures c.requires.empty }

pub returns : goal.returns
returns g c =
    let back = c.known-2.ensures in
    put_step g.D.Disk.state _ _ _ _ _ _ _ c.join-bay.ensures c.part-hosts.ensures c.known.ensures.keeps
    (record { cartridge = back.cartridge; follows = back.follows; within = back.within }) c.args.cartridge
    c.insert.ensures.inserted
