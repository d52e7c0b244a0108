-- Work on the loaded medium, as a part of the drive's.
use Rattle.std.specs.Prelude.{◌≡◌, []}
use Rattle.volume_core.specs.Medium.{MediumState}
use Rattle.drive_commands.specs.declared.bays.Bay.{Bay}
use Rattle.drive_commands.specs.declared.bays.Bay.TheVariants.{Loaded}
use Rattle.drive_commands.specs.State.{Mounted, mounted, with_mounted}
use Rattle.drive_commands.specs.Relations.{MediumRelation, MachineRelation}

-- work on the medium of this bay, which saves nothing; where none is loaded there is no such work (own)
abbrev pub OnMediumIn : Bay MediumState → MediumRelation → MachineRelation
OnMediumIn (Loaded medium) W old answer made new =
    (m : Mounted) × W (mounted medium old.position) answer made.changes m × (new ≡ with_mounted old m)
    × (made.saved ≡ [])
OnMediumIn _ W old answer made new = ⊥

-- work on the loaded medium, at the position; all else of the drive stays (own)
abbrev pub OnMedium : MediumRelation → MachineRelation
OnMedium W old answer made new = OnMediumIn old.bay W old answer made new
