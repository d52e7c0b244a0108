use Rattle.bay_moves.specs.Lent.{InEach}
use Rattle.bay_moves.specs.Moves.{KeepsCartridges, MovesMedium}
use Rattle.bay_moves.proofs.LiftedLemmas.{neither_lent, none_named}
use Rattle.bay_moves.proofs.MoveLemmas.{moves_stay}
use Rattle.bay_moves.proofs.held.Held.move_between_slots.Goals as goal

pub returns : goal.returns
returns g c =
    let answer =
    none_named (λ old new. MovesMedium g.D.Disk.state old c.args.from c.args.to c.move_lent-reply.result new)
    c.self.inside.slots c.move_lent-reply.new.slots c.args.from c.args.to c.self.inside.bays.items
    c.self.invariant c.args.self.now c.self.view_is c.requires.source c.requires.destination
    (neither_lent c.as_mut.result c.as_mut-2.result _ _ c.as_mut.ensures.value c.as_mut-2.ensures.value
    (λ source destination left still.
    InEach c.args.from c.args.to c.self.inside.slots source destination c.move_lent-reply.new.slots left still
    (λ old new. MovesMedium g.D.Disk.state old c.args.from c.args.to c.move_lent-reply.result new))
    c.move_lent-reply.ensures.answer) in
    record {
      answer = answer;
      keeps =
          none_named (λ old new. KeepsCartridges g.D.Disk.state old c.args.from c.args.to c.move_lent-reply.result new)
          c.self.inside.slots c.move_lent-reply.new.slots c.args.from c.args.to c.self.inside.bays.items
          c.self.invariant c.args.self.now c.self.view_is c.requires.source c.requires.destination
          (neither_lent c.as_mut.result c.as_mut-2.result _ _ c.as_mut.ensures.value c.as_mut-2.ensures.value
          (λ source destination left still.
          InEach c.args.from c.args.to c.self.inside.slots source destination c.move_lent-reply.new.slots left still
          (λ old new. KeepsCartridges g.D.Disk.state old c.args.from c.args.to c.move_lent-reply.result new))
          c.move_lent-reply.ensures.keeps);
      bays = moves_stay g.D.Disk.state _ _ c.args.from c.args.to c.move_lent-reply.result answer;
    }
