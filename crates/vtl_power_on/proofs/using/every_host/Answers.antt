use Rattle.std.proofs.Common.{arith}
use Rattle.vtl_power_on.proofs.UsingLemmas.{every_one}
use Rattle.vtl_power_on.proofs.using.every_host.Goals as goal

pub returns : goal.returns
returns c =
    every_one c.loop-place.hosts c.loop-place.invariant.0 (λ k below.
    c.loop-place.invariant.1 k (omega (arith, below, c.loop-place-test.false, c.loop-place.auto.place-end)))
