use Rattle.std.proofs.Common.{◌≤◌, ℕ, subst}
use Rattle.vtl_base.specs.declared.limits.TheConstants.{MAX_OBJECTS}
use Rattle.volume_core.specs.Volume.{capacity_of}
use Rattle.volume_core.specs.Medium.{volume_of}
use Rattle.drive_commands.proofs.AppendLemmas.{erase_fits}
use Rattle.drive_commands.proofs.erases.note_that_it_fits.Goals as goal

pub returns : goal.returns
returns g c =
    let volume = volume_of (g.C.Catalog.state c.args.medium.now) in
    erase_fits volume c.args.position c.requires.on_tape.part c.requires.on_tape.object
    (subst (λ (n : ℕ). n ≤ MAX_OBJECTS) c.count.ensures.count c.count.ensures.bound)
    (subst (λ (n : ℕ). n ≤ capacity_of volume c.args.position.part) c.used.ensures.used c.used.ensures.bound)
