use Rattle.std.proofs.Common.{◌≡◌, ◌∙◌, ℕ, List, Option, Ok, ap}
use Rattle.scsi_sense.specs.Replies.{good_with}
use Rattle.scsi_sense.specs.SenseData.{sense_bytes}
use Rattle.scsi_opcodes.specs.Answers.{cut_to}
use Rattle.drive_commands.specs.declared.conditions.Condition.{Condition}
use Rattle.drive_commands.specs.State.{machine_of}
use Rattle.drive_commands.specs.Conditions.{condition_due}
use Rattle.drive_commands.specs.RequestSense.{once_reported, sense_due}
use Rattle.drive_commands.proofs.TakesLemmas.{senses_takes, cleared_untouched, cleared_in_machine}
use Rattle.drive_commands.proofs.drives.Drive.request_sense.Goals as goal

pub returns : goal.returns
returns g c =
    let state = g.M.Catalog.state in
    let old = c.args.self.now in
    let kept = g.K.Keeper.kept in
    let keeps = g.K.Keeper.below in
    let nowhere = g.met.M.Medium.advances_nowhere in
    let keeps_nowhere = g.met.K.Keeper.advances_nowhere in
    let machine = machine_of state kept old in
    let due = c.condition_due-due.result in
    let is : due ≡ condition_due machine c.args.nexus = c.condition_due-due.ensures in
    let bytes : c.cut_to.result.now ≡ cut_to c.args.room (sense_bytes (sense_due (condition_due machine
    c.args.nexus))) =
    c.cut_to.ensures
    ∙ ap (λ (b : List ℕ). cut_to c.args.room b)
    (c.bytes.ensures ∙ ap sense_bytes (c.sense_due-sense.ensures ∙ ap sense_due is)) in
    senses_takes state g.M.Medium.below kept keeps nowhere keeps_nowhere c.args.room c.args.nexus old
    c.clear_due.new.self (Ok c.in_ok-reply.reply)
    (c.in_ok-reply.ensures ∙ ap good_with bytes)
    (rw c.clear_due.ensures
    (cleared_untouched state g.M.Medium.below kept keeps nowhere keeps_nowhere due c.args.nexus old))
    (ap (machine_of state kept) c.clear_due.ensures
    ∙ cleared_in_machine state g.M.Medium.below kept keeps nowhere keeps_nowhere due c.args.nexus old
    ∙ ap (λ (d : Option Condition). once_reported d c.args.nexus machine) is)
