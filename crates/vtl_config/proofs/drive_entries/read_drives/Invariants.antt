use Rattle.std.proofs.Common.{map, take}
use Rattle.toml.specs.View.{view}
use Rattle.vtl_config.specs.Configs.{AreDrives}
use Rattle.vtl_config.proofs.drive_entries.read_drives.Given as goal

abbrev pub invariant-loop-place : goal.invariant-loop-place
invariant-loop-place l = AreDrives (map view (take l.place l.entries)) l.drives.items
