use Rattle.tape_disk.specs.TwoDisks.{seen_of_two}
use Rattle.test_known.proofs.VolumeLemmas.{same_volume}
use Rattle.test_known.proofs.beside.Known.opened.Goals as goal

pub invariant_of-result : goal.invariant_of-result
invariant_of-result g c =
    let disks = c.args.shelved.disks in
    let honest = c.requires.honest in
    let seen = seen_of_two g.D.Disk.state disks in (
      same_volume c.args.volume c.args.shelved.contents c.in-Ok.cartridge.contents c.args.shelved.torn seen
          c.requires.whole
          c.requires.same
          (c.known.ensures.shows c.requires.known honest seen
          ((g.met.D.Disk.is_disk disks.first honest.0).reads, (g.met.D.Disk.is_disk disks.second honest.1).reads))
          (c.in-Ok.ensures.gives honest).0
          c.a_pair_gives_one_volume.ensures.contents,
      c.in-Ok.ensures.ok.1,
      (c.in-Ok.ensures.disks.0.stays_honest honest.0, c.in-Ok.ensures.disks.1.stays_honest honest.1),
    )
