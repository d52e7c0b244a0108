use Rattle.std.proofs.Common.{map, Ok, Err}
use Rattle.vtl_files.proofs.ConfigCheckLemmas.{checks_on}
use Rattle.vtl_files.specs.Creating.{CartridgeFile, StoreFile}
use Rattle.vtl_files.proofs.config_checks.check_files.Goals as goal

pub returns-in-Ok-check_stores : goal.returns-in-Ok-check_stores
returns-in-Ok-check_stores g c =
    rw c.first_of.ensures
    (checks_on g.D.Disk.state g.D.Disk.effect g.F.ReadFiles.opens_to_read g.F.ReadFiles.closes
    (map CartridgeFile c.args.config.cartridges.items) (map StoreFile c.args.config.drives.items) _ _ _ c.in-Ok.first
    (Ok c.in-Ok-check_stores.next) c.in-Ok.ensures c.in-Ok-check_stores.ensures)

pub returns-in-Err-check_stores : goal.returns-in-Err-check_stores
returns-in-Err-check_stores g c =
    checks_on g.D.Disk.state g.D.Disk.effect g.F.ReadFiles.opens_to_read g.F.ReadFiles.closes
    (map CartridgeFile c.args.config.cartridges.items) (map StoreFile c.args.config.drives.items) _ _ _ c.in-Ok.first
    (Err c.in-Err-check_stores.fault) c.in-Ok.ensures c.in-Err-check_stores.ensures
