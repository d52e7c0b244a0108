use Rattle.std.proofs.Common.{◌∙◌, ℕ, List, ap, subst}
use Rattle.scsi_opcodes.specs.Answers.{block_limits, cut_to, inquiry_data}
use Rattle.drive_commands.specs.Giving.{Gives}
use Rattle.drive_commands.proofs.TakesLemmas.{gives_takes}
use Rattle.drive_commands.proofs.drives.Drive.on_drive.Goals as goal

pub returns-in-ReadBlockLimits : goal.returns-in-ReadBlockLimits
returns-in-ReadBlockLimits g c =
    rw c.in-ReadBlockLimits.is
    (gives_takes g.M.Catalog.state g.M.Medium.below g.K.Keeper.kept g.K.Keeper.below
    g.met.M.Medium.advances_nowhere g.met.K.Keeper.advances_nowhere block_limits c.args.self.now
    c.give.result (subst (λ (b : List ℕ). Gives b c.give.result) c.block_limits.ensures c.give.ensures))

pub returns-in-Inquiry : goal.returns-in-Inquiry
returns-in-Inquiry g c =
    let bytes = cut_to c.in-Inquiry.length inquiry_data in
    rw c.in-Inquiry.is
    (gives_takes g.M.Catalog.state g.M.Medium.below g.K.Keeper.kept g.K.Keeper.below
    g.met.M.Medium.advances_nowhere g.met.K.Keeper.advances_nowhere bytes c.args.self.now
    c.give-in-Inquiry.result
    (subst (λ (b : List ℕ). Gives b c.give-in-Inquiry.result)
    (c.cut_to.ensures ∙ ap (λ (d : List ℕ). cut_to c.in-Inquiry.length d) c.inquiry_data.ensures)
    c.give-in-Inquiry.ensures))
