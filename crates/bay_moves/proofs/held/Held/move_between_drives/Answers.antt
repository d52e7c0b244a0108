use Rattle.bay_moves.specs.Moves.{KeepsCartridges, MovesMedium}
use Rattle.bay_moves.proofs.LiftedLemmas.{both_lent}
use Rattle.bay_moves.proofs.MoveLemmas.{moves_stay}
use Rattle.bay_moves.proofs.held.Held.move_between_drives.Goals as goal

pub returns : goal.returns
returns g c =
    let answer =
    both_lent (λ old new. MovesMedium g.D.Disk.state old c.args.from c.args.to c.move_lent-reply.result new)
    c.self.inside.slots c.move_lent-reply.new.slots c.args.from c.args.to c.self.inside.bays.items
    c.self.invariant c.args.source c.move_lent-reply.new.source.0 c.args.destination
    c.move_lent-reply.new.destination.0 c.args.self.now c.return_drive.new.self c.return_drive-2.new.self
    c.self.view_is c.return_drive.ensures c.return_drive-2.ensures c.requires.source c.requires.destination
    c.requires.apart c.move_lent-reply.ensures.answer in
    record {
      answer = answer;
      keeps =
          both_lent (λ old new. KeepsCartridges g.D.Disk.state old c.args.from c.args.to c.move_lent-reply.result new)
          c.self.inside.slots c.move_lent-reply.new.slots c.args.from c.args.to c.self.inside.bays.items
          c.self.invariant c.args.source c.move_lent-reply.new.source.0 c.args.destination
          c.move_lent-reply.new.destination.0 c.args.self.now c.return_drive.new.self c.return_drive-2.new.self
          c.self.view_is c.return_drive.ensures c.return_drive-2.ensures c.requires.source c.requires.destination
          c.requires.apart c.move_lent-reply.ensures.keeps;
      bays = moves_stay g.D.Disk.state _ _ c.args.from c.args.to c.move_lent-reply.result answer;
    }
