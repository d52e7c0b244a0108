use Rattle.std.proofs.Common.{◌≡◌, ◌++◌, length, map, Ok}
use Rattle.std.specs.Vec.Iter.{into_iter_items, into_iter_len}
use Rattle.vtl_files.specs.ConfigChecks.{ChecksAll}
use Rattle.vtl_files.specs.Creating.{StoreFile}
use Rattle.vtl_files.proofs.config_checks.check_stores.Given as goal

-- the files so far are checked, and their check ends so
abbrev pub invariant-loop-entry : goal.invariant-loop-entry
invariant-loop-entry g l =
    (l.yielded ++ into_iter_items l.entry-iterator ≡ into_iter_items l.initial.entry-iterator)
    × ChecksAll g.D.Disk.state g.D.Disk.effect g.F.ReadFiles.opens_to_read g.F.ReadFiles.closes
    (map StoreFile l.yielded) (g.W.Write.contents l.fn.writer) (g.W.Write.contents l.writer) (Ok l.first)
    × (into_iter_len l.entry-iterator ≡ length (into_iter_items l.entry-iterator))
