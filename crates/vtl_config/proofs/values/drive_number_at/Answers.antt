use Rattle.std.proofs.Common.{refl}
use Rattle.vtl_config.specs.Values.{out_of_range, whole}
use Rattle.vtl_config.proofs.values.drive_number_at.Goals as goal

pub returns-in-None-clause-err : goal.returns-in-None-clause-err
returns-in-None-clause-err c =
    out_of_range (whole c.in_ok-number.number) refl c.in_ok-number.ensures.ok refl c.in-None.ensures
