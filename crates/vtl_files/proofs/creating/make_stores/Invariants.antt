use Rattle.std.proofs.Common.{◌≡◌, ◌++◌, length, map, Ok}
use Rattle.std.specs.Vec.Iter.{into_iter_items, into_iter_len}
use Rattle.vtl_files.specs.Creating.{StoreFile, PrintsFiles, makes_of}
use Rattle.vtl_files.proofs.creating.make_stores.Given as goal

-- the lines of the files so far are printed
abbrev pub invariant-loop-entry : goal.invariant-loop-entry
invariant-loop-entry g l =
    (l.yielded ++ into_iter_items l.entry-iterator ≡ into_iter_items l.initial.entry-iterator)
    × PrintsFiles g.D.Disk.state (makes_of g.F.LookFiles.looks g.F.MakeFiles.makes g.F.MakeFiles.leaves
    g.F.MakeFiles.takes_away
    g.F.SecondFiles.opens_second
    g.F.SecondFiles.closes_second)
    (map StoreFile l.yielded) (g.W.Write.contents l.fn.writer) (g.W.Write.contents l.writer) (Ok tt)
    × (into_iter_len l.entry-iterator ≡ length (into_iter_items l.entry-iterator))
