use Rattle.std.proofs.Common.{◌≡◌, ◌++◌, length}
use Rattle.std.specs.Vec.Iter.{into_iter_items, into_iter_len}
use Rattle.vtl_power_on.specs.Starting.{AreOn}
use Rattle.vtl_power_on.proofs.starting.start.Given as goal

-- the drives so far are on
abbrev pub invariant-loop-entry : goal.invariant-loop-entry
invariant-loop-entry g l =
    (l.yielded ++ into_iter_items l.entry-iterator ≡ into_iter_items l.initial.entry-iterator)
    × AreOn g.S.Sides.given.gives_cartridge g.D.Disk.state g.S.Sides.given.gives_store l.fn.cartridges.items l.yielded
    l.starting
    × (into_iter_len l.entry-iterator ≡ length (into_iter_items l.entry-iterator))
