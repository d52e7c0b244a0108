use Rattle.std.proofs.Common.{inl, refl}
use Rattle.volume_copy.specs.Entries.{entries_from}
use Rattle.volume_reclaim.specs.Reading.{LiesOnDisk}
use Rattle.volume_reclaim.proofs.GivenLemmas.{copy_body}
use Rattle.volume_reclaim.proofs.source.SourceGivesBodies.give.Goals as goal

pub returns-in_ok-self-in-Some-clause-ok : goal.returns-in_ok-self-in-Some-clause-ok
returns-in_ok-self-in-Some-clause-ok g c =
    let self = c.args.self.now in
    let disk = g.D.Disk.state self.blocks.disk in
    let made = c.in_ok-self-in-Some.ensures.ok in
    let behind = c.in_ok-self-in-Some.field-0 in
    let body = copy_body disk.honest (LiesOnDisk disk) made.0 (entries_from self.index behind.part behind.at)
    (entries_from self.index self.cursor.part self.cursor.at) made.1 made.3 in
    (made.1, body, made.2, (refl, c.in_ok-self-in-Some.ensures.reads, inl (made.0, made.3)))
