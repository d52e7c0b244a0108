use Rattle.std.proofs.Common.{◌∙◌, [], refl, sym, ap}
use Rattle.scsi_sense.specs.declared.sense_data.Sense.{Sense}
use Rattle.scsi_sense.specs.Replies.{check_with, good_with}
use Rattle.drive_commands.proofs.LoadingLemmas.{load_again, load_failed, load_none, load_opened, load_refused}
use Rattle.drive_commands.proofs.drives.Drive.load_here.Goals as goal

pub returns-then-has_failed : goal.returns-then-has_failed
returns-then-has_failed g c =
    let state = g.M.Catalog.state in
    let below = g.M.Medium.below in
    let kept = g.K.Keeper.kept in
    let keeps = g.K.Keeper.below in
    let nowhere = g.met.M.Medium.advances_nowhere in
    let keeps_nowhere = g.met.K.Keeper.advances_nowhere in
    rw (c.check.ensures ∙ ap (λ (s : Sense). check_with s []) c.medium_failed.ensures)
    (load_failed state below kept keeps nowhere keeps_nowhere _ c.args.self.now c.self.view_is c.args.nexus
    c.in-Loaded.medium _ c.in-Loaded.is refl (sym c.has_failed.ensures ∙ c.if-has_failed.true))

pub returns-in-Loaded : goal.returns-in-Loaded
returns-in-Loaded g c =
    let state = g.M.Catalog.state in
    let below = g.M.Medium.below in
    let kept = g.K.Keeper.kept in
    let keeps = g.K.Keeper.below in
    let nowhere = g.met.M.Medium.advances_nowhere in
    let keeps_nowhere = g.met.K.Keeper.advances_nowhere in
    load_again state below kept keeps nowhere keeps_nowhere _ c.args.self.now c.self.view_is c.args.nexus
    c.in-Loaded.medium c.go_to_start.new.medium c.go_to_start.new.position c.go_to_start.result c.in-Loaded.is
    (sym c.has_failed.ensures ∙ c.if-has_failed.false) c.go_to_start.ensures.carries

pub returns-in-Empty : goal.returns-in-Empty
returns-in-Empty g c =
    let state = g.M.Catalog.state in
    let below = g.M.Medium.below in
    let kept = g.K.Keeper.kept in
    let keeps = g.K.Keeper.below in
    let nowhere = g.met.M.Medium.advances_nowhere in
    let keeps_nowhere = g.met.K.Keeper.advances_nowhere in
    rw (c.check-in-Empty.ensures ∙ ap (λ (s : Sense). check_with s []) c.medium_not_present.ensures)
    (load_none state below kept keeps nowhere keeps_nowhere _ c.args.self.now c.self.view_is c.args.nexus _
    (sym c.replace.ensures.value ∙ c.in-Empty.is) c.replace.ensures.after)

pub returns-in-Ok : goal.returns-in-Ok
returns-in-Ok g c =
    let state = g.M.Catalog.state in
    let below = g.M.Medium.below in
    let kept = g.K.Keeper.kept in
    let keeps = g.K.Keeper.below in
    let nowhere = g.met.M.Medium.advances_nowhere in
    let keeps_nowhere = g.met.K.Keeper.advances_nowhere in
    rw (c.good.ensures ∙ ap good_with c.new.ensures)
    (load_opened state below kept keeps nowhere keeps_nowhere _ c.args.self.now c.self.view_is c.args.nexus
    c.in-Unloaded.medium c.in-Ok.opened _ _ _ (sym c.replace.ensures.value ∙ c.in-Unloaded.is) c.fill.ensures
    c.start_of-self-inside.ensures.start c.establish_for_others.ensures (rw c.in-Ok.is at c.wake.ensures))

pub returns-in-Err : goal.returns-in-Err
returns-in-Err g c =
    let state = g.M.Catalog.state in
    let below = g.M.Medium.below in
    let kept = g.K.Keeper.kept in
    let keeps = g.K.Keeper.below in
    let nowhere = g.met.M.Medium.advances_nowhere in
    let keeps_nowhere = g.met.K.Keeper.advances_nowhere in
    rw c.wake_answer.ensures
    (load_refused state below kept keeps nowhere keeps_nowhere _ c.args.self.now c.self.view_is c.args.nexus
    c.in-Unloaded.medium c.in-Err.parked c.in-Err.error _ (sym c.replace.ensures.value ∙ c.in-Unloaded.is)
    c.fill-in-Err.ensures (rw c.in-Err.is at c.wake.ensures))
