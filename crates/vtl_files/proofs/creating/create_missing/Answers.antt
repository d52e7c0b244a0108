use Rattle.std.proofs.Common.{map}
use Rattle.vtl_files.proofs.CreatingLemmas.{files_on, files_of}
use Rattle.vtl_files.specs.Creating.{CartridgeFile, StoreFile, makes_of}
use Rattle.vtl_files.proofs.creating.create_missing.Goals as goal

pub returns-in-Err : goal.returns-in-Err
returns-in-Err g c =
    let config = c.args.config in
    files_of g.D.Disk.state (makes_of g.F.LookFiles.looks g.F.MakeFiles.makes g.F.MakeFiles.leaves
    g.F.MakeFiles.takes_away g.F.SecondFiles.opens_second
    g.F.SecondFiles.closes_second) (map CartridgeFile config.cartridges.items)
    (map StoreFile config.drives.items) _ _ c.in-Err.fault c.in-Err.ensures

pub returns : goal.returns
returns g c =
    let config = c.args.config in
    files_on g.D.Disk.state (makes_of g.F.LookFiles.looks g.F.MakeFiles.makes g.F.MakeFiles.leaves
    g.F.MakeFiles.takes_away g.F.SecondFiles.opens_second
    g.F.SecondFiles.closes_second) (map CartridgeFile config.cartridges.items)
    (map StoreFile config.drives.items) _ _ _ c.make_stores.result c.in_default.ensures c.make_stores.ensures
