use Rattle.tape_buffer.proofs.ReclaimingLemmas.{not_rebased, rebases}
use Rattle.tape_buffer.proofs.reclaiming.reclaim.Goals as goal

pub returns-in-Ok : goal.returns-in-Ok
returns-in-Ok g c =
    let disk = g.D.Disk.state in
    let told = c.in-Ok.ensures in
    record {
      disks = told.disks;
      ok = told.ok;
      copy = told.copy;
      refused = tt;
      unwritten = tt;
      untouched = tt;
      any_moment = told.any_moment;
      base = λ contents only.
          rebases disk g.met.D.Disk.is_disk c.a_pair_gives_one_volume.ensures.contents
          c.a_volume_is_made_since.ensures contents c.args.shelved only c.in-Ok.reclaimed told.disks told.ok told.copy
          c.known.ensures.shows told.any_moment;
    }

pub returns-in-Err : goal.returns-in-Err
returns-in-Err g c =
    let disk = g.D.Disk.state in
    let told = c.in-Err.ensures in
    record {
      disks = told.disks;
      ok = tt;
      copy = tt;
      refused = told.refused;
      unwritten = told.unwritten;
      untouched = told.untouched;
      any_moment = told.any_moment;
      base = λ contents only.
          not_rebased disk g.met.D.Disk.is_disk c.a_pair_gives_one_volume.ensures.contents
          c.a_volume_is_made_since.ensures contents c.args.shelved only c.in-Err.refused told.disks told.refused
          told.unwritten told.any_moment;
    }
