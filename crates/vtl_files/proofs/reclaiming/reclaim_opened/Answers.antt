use Rattle.std.proofs.Common.{inl}
use Rattle.check_lines.specs.Disks.{disks_checked}
use Rattle.vtl_files.proofs.reclaiming.reclaim_opened.Goals as goal

pub returns-in-Ok : goal.returns-in-Ok
returns-in-Ok g c = inl (record {
  second = c.in-Ok.second;
  opened = rw c.in-Ok.is at c.open_second-second_name.ensures.answer;
  last = disks_checked c.reclaim_side-lines.result;
  closed = (c.return_disk.ensures, rw c.open_second-second_name.ensures.used at c.close_second.ensures);
  lines = c.reclaim_side-lines.result.lines;
  reclaims = c.reclaim_side-lines.ensures;
  prints = c.print_reclaim.ensures;
})
