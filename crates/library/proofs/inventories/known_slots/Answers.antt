use Rattle.std.proofs.Common.{All, List, Option, subst, arith}
use Rattle.std.proofs.lemmas.List.{take_all}
use Rattle.std.proofs.lemmas.List.Elements.{All-more, All-nil}
use Rattle.tape_buffer.specs.State.{BufferState}
use Rattle.library.specs.Keeps.{KeepsShelvedIn}
use Rattle.library.proofs.inventories.known_slots.Goals as goal

pub loop-slot-init : goal.loop-slot-init
loop-slot-init g c = All-nil (KeepsShelvedIn g.D.Disk.state)

pub loop-slot-preserved : goal.loop-slot-preserved
loop-slot-preserved g c =
    let P = λ (slot : Option (BufferState g.row.D.Denot)). KeepsShelvedIn g.D.Disk.state slot in
    All-more P c.inventory-row.result.now c.loop-slot.slot-index c.slot-item.result c.loop-slot-test.true
    c.loop-slot.invariant (subst P c.slot-item.is c.known_slot.ensures)

pub returns : goal.returns
returns g c =
    let P = λ (slot : Option (BufferState g.row.D.Denot)). KeepsShelvedIn g.D.Disk.state slot in
    subst (λ (row : List (Option (BufferState g.row.D.Denot))). All P row) c.inventory-row.ensures.row
    (subst (λ (row : List (Option (BufferState g.row.D.Denot))). All P row)
    (take_all c.loop-slot.slot-index c.inventory-row.result.now (omega (arith, c.loop-slot-test.false)))
    c.loop-slot.invariant)
