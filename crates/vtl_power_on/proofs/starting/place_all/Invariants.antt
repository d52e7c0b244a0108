use Rattle.std.proofs.Common.{◌≡◌, ◌++◌, length}
use Rattle.std.specs.Vec.Iter.{into_iter_items, into_iter_len}
use Rattle.vtl_power_on.specs.Inner.Waiting.{AreHome}
use Rattle.vtl_power_on.proofs.starting.place_all.Given as goal

-- the cartridges so far are at their homes
abbrev pub invariant-loop-entry : goal.invariant-loop-entry
invariant-loop-entry g l =
    (l.yielded ++ into_iter_items l.entry-iterator ≡ into_iter_items l.initial.entry-iterator)
    × AreHome g.S.Sides.given.gives_cartridge l.yielded l.starting
    × (into_iter_len l.entry-iterator ≡ length (into_iter_items l.entry-iterator))
