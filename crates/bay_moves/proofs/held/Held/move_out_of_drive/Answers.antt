use Rattle.std.proofs.Common.{Some}
use Rattle.bay_moves.specs.Lent.{InEach}
use Rattle.bay_moves.specs.Moves.{KeepsCartridges, MovesMedium}
use Rattle.bay_moves.proofs.LiftedLemmas.{none_lent, source_lent}
use Rattle.bay_moves.proofs.MoveLemmas.{moves_stay}
use Rattle.bay_moves.proofs.held.Held.move_out_of_drive.Goals as goal

pub returns : goal.returns
returns g c =
    let answer =
    source_lent (λ old new. MovesMedium g.D.Disk.state old c.args.from c.args.to c.move_lent-reply.result new)
    c.self.inside.slots c.move_lent-reply.new.slots c.args.from c.args.to c.self.inside.bays.items
    c.self.invariant c.args.source c.move_lent-reply.new.source.0 c.args.self.now c.return_drive.new.self
    c.self.view_is c.return_drive.ensures c.requires.source c.requires.alone
    (none_lent c.as_mut.result _ c.as_mut.ensures.value (λ given left.
    InEach c.args.from c.args.to c.self.inside.slots (Some c.args.source) given c.move_lent-reply.new.slots
    (Some c.move_lent-reply.new.source.0) left
    (λ old new. MovesMedium g.D.Disk.state old c.args.from c.args.to c.move_lent-reply.result new))
    c.move_lent-reply.ensures.answer) in
    record {
      answer = answer;
      keeps =
          source_lent (λ old new. KeepsCartridges g.D.Disk.state old c.args.from c.args.to c.move_lent-reply.result new)
          c.self.inside.slots c.move_lent-reply.new.slots c.args.from c.args.to c.self.inside.bays.items
          c.self.invariant c.args.source c.move_lent-reply.new.source.0 c.args.self.now c.return_drive.new.self
          c.self.view_is c.return_drive.ensures c.requires.source c.requires.alone
          (none_lent c.as_mut.result _ c.as_mut.ensures.value (λ given left.
          InEach c.args.from c.args.to c.self.inside.slots (Some c.args.source) given c.move_lent-reply.new.slots
          (Some c.move_lent-reply.new.source.0) left
          (λ old new. KeepsCartridges g.D.Disk.state old c.args.from c.args.to c.move_lent-reply.result new))
          c.move_lent-reply.ensures.keeps);
      bays = moves_stay g.D.Disk.state _ _ c.args.from c.args.to c.move_lent-reply.result answer;
    }
