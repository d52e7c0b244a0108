use Rattle.std.proofs.Common.{map, take}
use Rattle.toml.specs.View.{view}
use Rattle.vtl_config.specs.Configs.{AreCartridges}
use Rattle.vtl_config.proofs.cartridge_entries.read_cartridges.Given as goal

abbrev pub invariant-loop-place : goal.invariant-loop-place
invariant-loop-place l = AreCartridges l.drives (map view (take l.place l.entries)) l.cartridges.items
