use Rattle.check_lines.specs.Disks.{both}
use Rattle.vtl_files.proofs.ReclaimLemmas.{none_shown}
use Rattle.vtl_files.proofs.reclaiming.reclaim_side.Goals as goal

pub returns-in-Err : goal.returns-in-Err
returns-in-Err g c = none_shown g.D.Disk.state c.args.barcode.now (both c.args.first c.args.second)
