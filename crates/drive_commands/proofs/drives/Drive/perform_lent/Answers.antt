use Rattle.std.proofs.Common.{refl}
use Rattle.drive_commands.specs.State.{machine_of, medium_in}
use Rattle.drive_commands.specs.Execute.{HonestIn}
use Rattle.drive_commands.proofs.DataLemmas.{data_stay}
use Rattle.drive_commands.proofs.drives.Drive.perform_lent.Goals as goal

pub write_lent-requires-clause-medium : goal.write_lent-requires-clause-medium
write_lent-requires-clause-medium g c = let passed = rw c.in-Write.is at c.requires.passed in passed.medium refl

pub write_lent-requires-clause-short : goal.write_lent-requires-clause-short
write_lent-requires-clause-short g c =
    let passed = rw c.in-Write.is at c.requires.passed in rw passed.counted passed.short

pub returns-in-Write : goal.returns-in-Write
returns-in-Write g c = rw c.in-Write.is c.write_lent.ensures

pub returns-in_default : goal.returns-in_default
returns-in_default g c =
    let state = g.M.Catalog.state in
    let kept = g.K.Keeper.kept in
    let old = c.args.self.now in
    let takes = rw c.as_slice.ensures at c.perform.ensures in (
      takes,
      data_stay (HonestIn g.M.Medium.below (medium_in old.bay)) c.args.command c.args.nexus c.args.sent.now
          (machine_of state kept old) c.perform.result takes.made (machine_of state kept c.perform.new.self)
          c.in_default.not-Write c.requires.passed.counted takes.step,
    )
