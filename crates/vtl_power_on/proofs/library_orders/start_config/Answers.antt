use Rattle.std.proofs.Common.{inl}
use Rattle.std.proofs.lemmas.Result.{err_from_is_err_and}
use Rattle.vtl_power_on.specs.Fresh.{if_started_fresh}
use Rattle.vtl_power_on.proofs.UsingLemmas.{if_not_started}
use Rattle.vtl_power_on.proofs.library_orders.start_config.Goals as goal

pub returns-in_err-starting-clause-err : goal.returns-in_err-starting-clause-err
returns-in_err-starting-clause-err g c =
    let printed = err_from_is_err_and c.from_residual.result c.from_residual.ensures.1 in
    rw printed.1 (inl printed.2)

pub returns-clause-fresh : goal.returns-clause-fresh
returns-clause-fresh g c =
    if_started_fresh g.S.Sides.given.gives_cartridge g.D.Disk.state g.S.Sides.given.gives_store
    c.args.config.cartridges.items c.args.config.drives.items c.start.result c.start.ensures.ok

pub returns-clause-err : goal.returns-clause-err
returns-clause-err g c =
    if_not_started g.D.Disk.state g.S.Sides.given g.S.TakesBack.gives_up c.args.config c.start.result c.requires.0
    c.requires.1 c.start.ensures.err
