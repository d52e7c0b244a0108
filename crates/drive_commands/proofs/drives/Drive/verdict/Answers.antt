use Rattle.std.proofs.Common.{◌∙◌, sym}
use Rattle.drive_commands.specs.State.{machine_of}
use Rattle.drive_commands.proofs.PassLemmas.{passes}
use Rattle.drive_commands.proofs.drives.Drive.verdict.Goals as goal

pub returns-clause-passed : goal.returns-clause-passed
returns-clause-passed g c =
    passes (machine_of g.M.Catalog.state g.K.Keeper.kept c.args.self.now) c.args.nexus c.in-Some.opcode c.args.sent.now
    c.fields_verdict.result (sym c.state_denial.ensures ∙ c.in_default-state_denial.is) c.fields_verdict.ensures.fields
