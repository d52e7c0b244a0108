use Rattle.vtl_files.proofs.ConfigCheckLemmas.{checks_one}
use Rattle.vtl_files.specs.Creating.{CartridgeFile}
use Rattle.vtl_files.proofs.config_checks.check_cartridge.Goals as goal

pub returns : goal.returns
returns g c =
    checks_one g.D.Disk.state g.D.Disk.effect g.F.ReadFiles.opens_to_read g.F.ReadFiles.closes
    (CartridgeFile c.args.entry.now) _ _ c.check_file.result
    (rw (c.as_bytes-label.ensures.bytes, c.as_str-path.ensures) at c.check_file.ensures)
