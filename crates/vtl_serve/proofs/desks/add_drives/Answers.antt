use Rattle.std.proofs.Common.{◌≡◌, ◌+◌, ap, arith}
use Rattle.vtl_serve.specs.Labels.{drive_entry}
use Rattle.vtl_serve.proofs.LabelLemmas.{drives_more}
use Rattle.vtl_serve.proofs.desks.add_drives.Goals as goal

pub loop-place-preserved : goal.loop-place-preserved
loop-place-preserved g c =
    let place = c.loop-place.place in
    let same : place + 1 ≡ 1 + place = omega arith in
    drives_more c.args.library.now c.args.labels.now place c.args.entries.now.items
    (drive_entry c.args.library.now c.args.labels.now (place + 1)) c.add_drive.new.entries.items
    c.loop-place.entries.items c.loop-place.invariant (ap (drive_entry c.args.library.now c.args.labels.now) same)
    c.in_ok-add_drive.ensures
