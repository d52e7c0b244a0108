use Rattle.std.proofs.Common.{◌≡◌, ◌∙◌, [], Ok, true, refl, sym, ap}
use Rattle.scsi_sense.specs.declared.sense_data.Sense.{Sense}
use Rattle.scsi_sense.specs.Replies.{check_with}
use Rattle.drive_commands.specs.State.{DriveState, machine_of}
use Rattle.drive_commands.specs.ReserveOut.{ReserveOutWork}
use Rattle.drive_commands.proofs.TakesLemmas.{still_takes}
use Rattle.drive_commands.proofs.drives.Drive.reserve_out.Goals as goal

pub returns-in-Err : goal.returns-in-Err
returns-in-Err g c =
    let state = g.M.Catalog.state in
    let kept = g.K.Keeper.kept in
    let old = c.args.self.now in
    still_takes state g.M.Medium.below kept g.K.Keeper.below g.met.M.Medium.advances_nowhere
    g.met.K.Keeper.advances_nowhere
    (ReserveOutWork c.args.action c.args.nexus c.args.sent.now (machine_of state kept old)) old old _
    (record { medium = refl; keeper = refl }) (record { bay = refl; keeper = refl; accepted = refl })
    (rw (sym c.decode.ensures ∙ c.in-Err.is) (ap Ok c.check.ensures, refl, refl))

pub returns-then-has_failed : goal.returns-then-has_failed
returns-then-has_failed g c =
    let state = g.M.Catalog.state in
    let kept = g.K.Keeper.kept in
    let old = c.args.self.now in
    let failed : (kept old.keeper).failed ≡ true =
    sym (ap (λ (d : DriveState g.row.M.Denot g.row.K.Denot). (kept d.keeper).failed) c.self.view_is)
    ∙ sym c.has_failed.ensures ∙ c.if-has_failed.true in
    still_takes state g.M.Medium.below kept g.K.Keeper.below g.met.M.Medium.advances_nowhere
    g.met.K.Keeper.advances_nowhere
    (ReserveOutWork c.args.action c.args.nexus c.args.sent.now (machine_of state kept old)) old old _
    (record { medium = refl; keeper = refl }) (record { bay = refl; keeper = refl; accepted = refl })
    (rw (sym c.decode.ensures ∙ c.in-Ok.is, failed)
    (ap Ok (c.check-then-has_failed.ensures ∙ ap (λ (s : Sense). check_with s []) c.keeper_failed.ensures), refl, refl))
