use Rattle.std.proofs.Common.{All, take}
use Rattle.library.specs.Keeps.{KeepsShelvedIn}
use Rattle.library.proofs.inventories.known_slots.Given as goal

-- the slots so far have their invariants
abbrev pub invariant-loop-slot : goal.invariant-loop-slot
invariant-loop-slot g l = All (KeepsShelvedIn g.D.Disk.state) (take l.slot-index l.row)
