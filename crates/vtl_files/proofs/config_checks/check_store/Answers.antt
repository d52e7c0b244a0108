use Rattle.std.proofs.Common.{◌≡◌, ◌∙◌, Err}
use Rattle.vtl_files.proofs.ConfigCheckLemmas.{checks_one, no_name}
use Rattle.vtl_files.specs.ConfigChecks.{name_line, path_of, store_word}
use Rattle.vtl_files.specs.Creating.{StoreFile, label_of}
use Rattle.vtl_faults.specs.declared.faults.VtlFault.TheVariants.{NoMemory}
use Rattle.vtl_files.proofs.config_checks.check_store.Goals as goal

pub returns-in_default : goal.returns-in_default
returns-in_default g c =
    let file = StoreFile c.args.entry.now in
    checks_one g.D.Disk.state g.D.Disk.effect g.F.ReadFiles.opens_to_read g.F.ReadFiles.closes file _ _ (Err NoMemory)
    (no_name g.D.Disk.state g.D.Disk.effect g.F.ReadFiles.opens_to_read g.F.ReadFiles.closes store_word (label_of file)
    (path_of file) _)

pub returns : goal.returns
returns g c =
    let file = StoreFile c.args.entry.now in
    let named : c.as_bytes.result.now ≡ label_of file = c.as_bytes.ensures.value ∙ c.in-Ok.ensures in
    checks_one g.D.Disk.state g.D.Disk.effect g.F.ReadFiles.opens_to_read g.F.ReadFiles.closes file _ _
    c.check_file.result (rw (named, c.as_str-path.ensures) at c.check_file.ensures)
