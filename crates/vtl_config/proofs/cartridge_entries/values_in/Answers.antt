use Rattle.std.proofs.Common.{arith, refl}
use Rattle.vtl_config.specs.Rules.{misfits}
use Rattle.vtl_config.specs.declared.keys.Key.TheVariants.{Barcode, File, Capacities, Home}
use Rattle.vtl_config.proofs.cartridge_entries.values_in.Goals as goal

pub returns-in-Err-clause-err : goal.returns-in-Err-clause-err
returns-in-Err-clause-err c = misfits Barcode (0, omega arith, refl) c.in-Err.ensures.err

pub returns-in-Err-text_at-clause-err : goal.returns-in-Err-text_at-clause-err
returns-in-Err-text_at-clause-err c = misfits File (1, omega arith, refl) c.in-Err-text_at.ensures.err

pub returns-in-Err-capacities_at-clause-err : goal.returns-in-Err-capacities_at-clause-err
returns-in-Err-capacities_at-clause-err c =
    misfits Capacities (2, omega arith, refl) c.in-Err-capacities_at.ensures.err

pub returns-in-Err-home_at-clause-err : goal.returns-in-Err-home_at-clause-err
returns-in-Err-home_at-clause-err c = misfits Home (3, omega arith, refl) c.in-Err-home_at.ensures.err
