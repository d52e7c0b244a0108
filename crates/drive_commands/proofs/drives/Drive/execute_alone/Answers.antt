use Rattle.std.proofs.Common.{◌∙◌, ℕ, List, Result, sym, ap, refl}
use Rattle.scsi_opcodes.specs.declared.commands.Command.{Command}
use Rattle.drive_commands.specs.declared.conditions.Denial.{Denial}
use Rattle.drive_commands.specs.State.{machine_of}
use Rattle.drive_commands.specs.Checks.{verdict}
use Rattle.drive_commands.specs.Execute.{asked}
use Rattle.drive_commands.specs.Alone.{alone_in, needs_disk_as}
use Rattle.drive_commands.proofs.AloneLemmas.{alone_unacknowledged}
use Rattle.drive_commands.proofs.drives.Drive.execute_alone.Goals as goal

pub returns-then-needs_disk-clause-step : goal.returns-then-needs_disk-clause-step
returns-then-needs_disk-clause-step g c =
    let old = c.args.self.now in
    let machine = machine_of g.M.Catalog.state g.K.Keeper.kept old in
    let judged =
    sym (c.verdict-judged.ensures.verdict
    ∙ ap (λ (s : List ℕ). verdict machine (asked c.args.nexus c.args.cdb.now s)) c.as_slice.ensures) in (
      ap (λ (r : Result Command Denial). needs_disk_as (alone_in g.M.Medium.alone old.bay) old.buffered r) judged
          ∙ sym c.needs_disk.ensures ∙ c.if-needs_disk.true,
      refl,
      refl,
    )

pub returns-clause-step : goal.returns-clause-step
returns-clause-step g c =
    let old = c.args.self.now in
    let machine = machine_of g.M.Catalog.state g.K.Keeper.kept old in
    let judged =
    sym (c.verdict-judged.ensures.verdict
    ∙ ap (λ (s : List ℕ). verdict machine (asked c.args.nexus c.args.cdb.now s)) c.as_slice.ensures) in (
      ap (λ (r : Result Command Denial). needs_disk_as (alone_in g.M.Medium.alone old.bay) old.buffered r) judged
          ∙ sym c.needs_disk.ensures ∙ c.if-needs_disk.false,
      c.answer_lent.ensures c.args.cdb.now judged,
    )

pub returns-clause-waits : goal.returns-clause-waits
returns-clause-waits g c =
    let old = c.args.self.now in
    let machine = machine_of g.M.Catalog.state g.K.Keeper.kept old in
    let judged =
    sym (c.verdict-judged.ensures.verdict
    ∙ ap (λ (s : List ℕ). verdict machine (asked c.args.nexus c.args.cdb.now s)) c.as_slice.ensures) in
    alone_unacknowledged g.M.Catalog.state g.M.Medium.below g.K.Keeper.kept g.K.Keeper.below g.M.Medium.alone old
    c.answer_lent.new.self (asked c.args.nexus c.args.cdb.now c.args.sent.now) c.answer_lent.result
    c.answer_lent.new.sent (
      ap (λ (r : Result Command Denial). needs_disk_as (alone_in g.M.Medium.alone old.bay) old.buffered r) judged
          ∙ sym c.needs_disk.ensures ∙ c.if-needs_disk.false,
      c.answer_lent.ensures c.args.cdb.now judged,
    )
