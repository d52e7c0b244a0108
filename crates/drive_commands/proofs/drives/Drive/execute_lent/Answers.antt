use Rattle.std.proofs.Common.{◌∙◌, ℕ, List, sym, ap}
use Rattle.drive_commands.specs.State.{machine_of}
use Rattle.drive_commands.specs.Checks.{verdict}
use Rattle.drive_commands.specs.Execute.{asked}
use Rattle.drive_commands.proofs.AloneLemmas.{answers_settled}
use Rattle.drive_commands.proofs.drives.Drive.execute_lent.Goals as goal

pub returns-clause-step : goal.returns-clause-step
returns-clause-step g c =
    let machine = machine_of g.M.Catalog.state g.K.Keeper.kept c.args.self.now in
    c.answer_lent.ensures c.args.cdb.now
    (sym (c.verdict-judged.ensures.verdict
    ∙ ap (λ (s : List ℕ). verdict machine (asked c.args.nexus c.args.cdb.now s)) c.as_slice.ensures))

pub returns-clause-settled : goal.returns-clause-settled
returns-clause-settled g c =
    let machine = machine_of g.M.Catalog.state g.K.Keeper.kept c.args.self.now in
    let answers =
    c.answer_lent.ensures c.args.cdb.now
    (sym (c.verdict-judged.ensures.verdict
    ∙ ap (λ (s : List ℕ). verdict machine (asked c.args.nexus c.args.cdb.now s)) c.as_slice.ensures)) in
    answers_settled g.M.Catalog.state g.M.Medium.below g.K.Keeper.kept g.K.Keeper.below c.args.self.now
    c.answer_lent.new.self (asked c.args.nexus c.args.cdb.now c.args.sent.now) c.answer_lent.result answers.step
