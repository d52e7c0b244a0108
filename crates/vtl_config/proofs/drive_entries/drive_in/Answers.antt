use Rattle.std.proofs.Common.{arith, refl}
use Rattle.vtl_config.specs.Rules.{misfits, drive_alone, double_number, double_reservations}
use Rattle.vtl_config.specs.declared.keys.Key.TheVariants.{Number, Reservations}
use Rattle.vtl_config.proofs.drive_entries.drive_in.Goals as goal

pub returns-in-Err-clause-err : goal.returns-in-Err-clause-err
returns-in-Err-clause-err c = drive_alone (misfits Number (0, omega arith, refl) c.in-Err.ensures.err)

pub returns-in-Err-text_at-clause-err : goal.returns-in-Err-text_at-clause-err
returns-in-Err-text_at-clause-err c =
    drive_alone (misfits Reservations (1, omega arith, refl) c.in-Err-text_at.ensures.err)

pub returns-then-has_number-clause-err : goal.returns-then-has_number-clause-err
returns-then-has_number-clause-err c =
    double_number c.in-Ok.number refl c.in-Ok.ensures.ok (c.has_number.ensures.0 c.if-has_number.true)

pub returns-then-has_drive_file-clause-err : goal.returns-then-has_drive_file-clause-err
returns-then-has_drive_file-clause-err c =
    double_reservations c.in-Ok-text_at.file.now refl c.in-Ok-text_at.ensures.ok
    (c.has_drive_file.ensures.0 c.if-has_drive_file.true)
