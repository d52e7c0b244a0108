use Rattle.std.proofs.Common.{◌∙◌, [], sym, ap}
use Rattle.scsi_sense.specs.declared.sense_data.Sense.{Sense}
use Rattle.scsi_sense.specs.Replies.{check_with, good_with}
use Rattle.drive_commands.proofs.LoadingLemmas.{unload_broken, unload_none, unload_parked, unload_still}
use Rattle.drive_commands.proofs.drives.Drive.unload_here.Goals as goal

pub returns-in-Empty : goal.returns-in-Empty
returns-in-Empty g c =
    let state = g.M.Catalog.state in
    let below = g.M.Medium.below in
    let kept = g.K.Keeper.kept in
    let keeps = g.K.Keeper.below in
    let nowhere = g.met.M.Medium.advances_nowhere in
    let keeps_nowhere = g.met.K.Keeper.advances_nowhere in
    rw (c.check.ensures ∙ ap (λ (s : Sense). check_with s []) c.medium_not_present.ensures)
    (unload_none state below kept keeps nowhere keeps_nowhere _ c.args.self.now c.self.view_is _
    (sym c.replace.ensures.value ∙ c.in-Empty.is) c.replace.ensures.after)

pub returns-in-Unloaded : goal.returns-in-Unloaded
returns-in-Unloaded g c =
    let state = g.M.Catalog.state in
    let below = g.M.Medium.below in
    let kept = g.K.Keeper.kept in
    let keeps = g.K.Keeper.below in
    let nowhere = g.met.M.Medium.advances_nowhere in
    let keeps_nowhere = g.met.K.Keeper.advances_nowhere in
    rw (c.good.ensures ∙ ap good_with c.new.ensures)
    (unload_still state below kept keeps nowhere keeps_nowhere _ c.args.self.now c.self.view_is c.in-Unloaded.medium _
    (sym c.replace.ensures.value ∙ c.in-Unloaded.is) c.fill.ensures)

pub returns-in-Ok : goal.returns-in-Ok
returns-in-Ok g c =
    let state = g.M.Catalog.state in
    let below = g.M.Medium.below in
    let kept = g.K.Keeper.kept in
    let keeps = g.K.Keeper.below in
    let nowhere = g.met.M.Medium.advances_nowhere in
    let keeps_nowhere = g.met.K.Keeper.advances_nowhere in
    rw (c.good-in-Ok.ensures ∙ ap good_with c.new-in-Ok.ensures)
    (unload_parked state below kept keeps nowhere keeps_nowhere _ c.args.self.now c.self.view_is c.in-Loaded.medium
    c.in-Ok.parked _
    (sym c.replace.ensures.value ∙ c.in-Loaded.is) c.fill-in-Ok.ensures (rw c.in-Ok.is at c.park.ensures))

pub returns-in-Err : goal.returns-in-Err
returns-in-Err g c =
    let state = g.M.Catalog.state in
    let below = g.M.Medium.below in
    let kept = g.K.Keeper.kept in
    let keeps = g.K.Keeper.below in
    let nowhere = g.met.M.Medium.advances_nowhere in
    let keeps_nowhere = g.met.K.Keeper.advances_nowhere in
    unload_broken state below kept keeps nowhere keeps_nowhere _ c.args.self.now c.self.view_is c.in-Loaded.medium
    c.in-Err.broken _
    (sym c.replace.ensures.value ∙ c.in-Loaded.is) c.fill-in-Err.ensures (rw c.in-Err.is at c.park.ensures)
