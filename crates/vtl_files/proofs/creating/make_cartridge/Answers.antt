use Rattle.std.proofs.Common.{◌∙◌}
use Rattle.vtl_files.proofs.CreatingLemmas.{file_result, none_made}
use Rattle.vtl_files.specs.Creating.{CartridgeFile, makes_of}
use Rattle.vtl_files.proofs.creating.make_cartridge.Goals as goal

pub returns-in-Ok : goal.returns-in-Ok
returns-in-Ok g c =
    let is = c.as_bytes.ensures.bytes ∙ c.in-Ok.ensures.label in
    file_result g.D.Disk.state (makes_of g.F.LookFiles.looks g.F.MakeFiles.makes g.F.MakeFiles.leaves
    g.F.MakeFiles.takes_away g.F.SecondFiles.opens_second
    g.F.SecondFiles.closes_second)
    (CartridgeFile c.args.entry) c.in-Ok.fate
    (g.W.Write.contents c.args.writer.now) (g.W.Write.contents c.print_fate.new.writer) c.print_fate.result
    c.in-Ok.ensures.ok (rw is at c.print_fate.ensures.ok)
    (rw is at c.print_fate.ensures.err)

pub returns-in-Err : goal.returns-in-Err
returns-in-Err g c =
    none_made g.D.Disk.state (makes_of g.F.LookFiles.looks g.F.MakeFiles.makes g.F.MakeFiles.leaves
    g.F.MakeFiles.takes_away g.F.SecondFiles.opens_second
    g.F.SecondFiles.closes_second)
    (CartridgeFile c.args.entry) _ c.in-Err.fault c.in-Err.ensures.err
