use Rattle.std.proofs.Common.{sym, Ok}
use Rattle.check_lines.specs.Disks.{both}
use Rattle.vtl_files.specs.Reclaims.{Reclaims}
use Rattle.check_lines.proofs.PairLemmas.{moved}
use Rattle.vtl_files.proofs.ReclaimLemmas.{done_shown, refused_shown}
use Rattle.vtl_files.proofs.reclaiming.reclaim_with.Goals as goal

pub returns-in-Ok : goal.returns-in-Ok
returns-in-Ok g c =
    let state = g.D.Disk.state in
    let barcode = c.args.barcode.now in
    let line = c.reclaimed_text-line.result in
    moved (λ a b. Reclaims state barcode a b (Ok line)) (both c.args.first c.args.second) c.of.result.disks
    (both c.into_disks-first.result.0 c.into_disks-first.result.1) c.in-Ok.shelved.disks (sym c.of.ensures.disks)
    c.into_disks-first.ensures
    (done_shown state barcode c.of.result c.in-Ok.shelved line c.epoch.result c.in-Ok.ensures c.known.ensures.shows
    c.epoch.ensures c.reclaimed_text-line.ensures)

pub returns-in-Err : goal.returns-in-Err
returns-in-Err g c =
    let state = g.D.Disk.state in
    let barcode = c.args.barcode.now in
    let lines = c.refusal_text-lines.result in
    moved (λ a b. Reclaims state barcode a b lines) (both c.args.first c.args.second) c.of.result.disks
    (both c.into_disks-first-in-Err.result.0 c.into_disks-first-in-Err.result.1) c.in-Err.refused.shelved.disks
    (sym c.of.ensures.disks) c.into_disks-first-in-Err.ensures
    (refused_shown state barcode c.of.result c.in-Err.refused lines c.in-Err.ensures c.refusal_text-lines.ensures)
