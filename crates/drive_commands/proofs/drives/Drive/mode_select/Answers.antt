use Rattle.std.proofs.Common.{◌∙◌, Ok, refl, sym, ap}
use Rattle.scsi_sense.specs.Replies.{good_with}
use Rattle.drive_commands.specs.State.{machine_of}
use Rattle.drive_commands.specs.Mode.{ModeSelectWork}
use Rattle.drive_commands.proofs.TakesLemmas.{asked_in_machine, asked_untouched, still_takes}
use Rattle.drive_commands.proofs.drives.Drive.mode_select.Goals as goal

pub returns-in-Ok : goal.returns-in-Ok
returns-in-Ok g c =
    let state = g.M.Catalog.state in
    let kept = g.K.Keeper.kept in
    let old = c.args.self.now in
    let left = c.change_mode.ensures in
    still_takes state g.M.Medium.below kept g.K.Keeper.below g.met.M.Medium.advances_nowhere
    g.met.K.Keeper.advances_nowhere (ModeSelectWork c.args.nexus c.args.sent.now (machine_of state kept old)) old _ _
    (record { medium = refl; keeper = refl })
    (rw left (asked_untouched state kept c.in-Ok.list.buffered c.args.nexus old))
    (rw (sym c.decode.ensures ∙ c.in-Ok.is) (
      ap Ok (c.good.ensures ∙ ap good_with c.new.ensures),
      refl,
      ap (machine_of state kept) left ∙ asked_in_machine state kept c.in-Ok.list.buffered c.args.nexus old,
    ))

pub returns-in-Err : goal.returns-in-Err
returns-in-Err g c =
    let state = g.M.Catalog.state in
    let kept = g.K.Keeper.kept in
    let old = c.args.self.now in
    still_takes state g.M.Medium.below kept g.K.Keeper.below g.met.M.Medium.advances_nowhere
    g.met.K.Keeper.advances_nowhere (ModeSelectWork c.args.nexus c.args.sent.now (machine_of state kept old)) old old _
    (record { medium = refl; keeper = refl }) (record { bay = refl; keeper = refl; accepted = refl })
    (rw (sym c.decode.ensures ∙ c.in-Err.is) (ap Ok c.check.ensures, refl, refl))
