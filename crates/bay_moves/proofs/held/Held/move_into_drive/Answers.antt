use Rattle.std.proofs.Common.{Some}
use Rattle.bay_moves.specs.Lent.{InEach}
use Rattle.bay_moves.specs.Moves.{KeepsCartridges, MovesMedium}
use Rattle.bay_moves.proofs.LiftedLemmas.{destination_lent, none_lent}
use Rattle.bay_moves.proofs.MoveLemmas.{moves_stay}
use Rattle.bay_moves.proofs.held.Held.move_into_drive.Goals as goal

pub returns : goal.returns
returns g c =
    let answer =
    destination_lent
    (λ old new. MovesMedium g.D.Disk.state old c.args.from c.args.to c.move_lent-reply.result new)
    c.self.inside.slots c.move_lent-reply.new.slots c.args.from c.args.to c.self.inside.bays.items
    c.self.invariant c.args.destination c.move_lent-reply.new.destination.0 c.args.self.now
    c.return_drive.new.self c.self.view_is c.return_drive.ensures c.requires.destination c.requires.apart
    c.requires.alone
    (none_lent c.as_mut.result _ c.as_mut.ensures.value (λ given left.
    InEach c.args.from c.args.to c.self.inside.slots given (Some c.args.destination) c.move_lent-reply.new.slots
    left (Some c.move_lent-reply.new.destination.0)
    (λ old new. MovesMedium g.D.Disk.state old c.args.from c.args.to c.move_lent-reply.result new))
    c.move_lent-reply.ensures.answer) in
    record {
      answer = answer;
      keeps =
          destination_lent
          (λ old new. KeepsCartridges g.D.Disk.state old c.args.from c.args.to c.move_lent-reply.result new)
          c.self.inside.slots c.move_lent-reply.new.slots c.args.from c.args.to c.self.inside.bays.items
          c.self.invariant c.args.destination c.move_lent-reply.new.destination.0 c.args.self.now
          c.return_drive.new.self c.self.view_is c.return_drive.ensures c.requires.destination c.requires.apart
          c.requires.alone
          (none_lent c.as_mut.result _ c.as_mut.ensures.value (λ given left.
          InEach c.args.from c.args.to c.self.inside.slots given (Some c.args.destination) c.move_lent-reply.new.slots
          left (Some c.move_lent-reply.new.destination.0)
          (λ old new. KeepsCartridges g.D.Disk.state old c.args.from c.args.to c.move_lent-reply.result new))
          c.move_lent-reply.ensures.keeps);
      bays = moves_stay g.D.Disk.state _ _ c.args.from c.args.to c.move_lent-reply.result answer;
    }
