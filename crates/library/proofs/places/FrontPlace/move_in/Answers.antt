use Rattle.std.proofs.Common.{Option, Some, subst}
use Rattle.bay_moves.specs.Elements.{BayState}
use Rattle.library.specs.MovesAt.{MovesEach}
use Rattle.library.proofs.HalfLemmas.{back_there, front_there, holds_both, share_after, still_counted, still_there}
use Rattle.library.proofs.places.FrontPlace.move_in.Goals as goal

pub join_held-bay-requires-clause-front : goal.join_held-bay-requires-clause-front
join_held-bay-requires-clause-front g c =
    front_there g.D.Disk.state c.self.inside.half c.self.inside.share c.self.invariant

pub unreachable-requires : goal.unreachable-requires
unreachable-requires g c =
    still_there g.D.Disk.state c.join_held-bay.result.0 c.move_known-reply.new.destination
    c.move_known-reply.ensures.destination c.in_default.is

pub invariant_of-self : goal.invariant_of-self
invariant_of-self g c =
    share_after g.D.Disk.state c.self.inside.half c.back.inside.half c.join_held-bay.result.0 c.in-Some.bay
    c.join_held-bay.result.1 c.part_held.new.front c.part_held.new.back c.self.inside.share c.self.invariant
    c.join_held-bay.ensures (still_counted g.D.Disk.state c.join_held-bay.result.0
    c.move_known-reply.new.destination c.in-Some.bay c.move_known-reply.ensures.destination c.in-Some.is)
    c.part_held.ensures

pub invariant_of-back : goal.invariant_of-back
invariant_of-back g c =
    back_there g.D.Disk.state c.in-Some.bay c.join_held-bay.result.1 c.part_held.new.front c.part_held.new.back
    c.part_held.ensures

pub returns-clause-moves : goal.returns-clause-moves
returns-clause-moves g c = (
  c.join_held-bay.result.0,
  c.in-Some.bay,
  holds_both g.D.Disk.state c.self.inside.half c.args.self.now c.back.inside.half c.args.back.now
      c.join_held-bay.result.0 c.in-Some.bay c.join_held-bay.result.1 c.part_held.new.front c.part_held.new.back
      c.self.view_is c.back.view_is c.join_held-bay.ensures c.part_held.ensures,
  subst (λ (left : Option (BayState g.row.D.Denot)). MovesEach g.D.Disk.state c.args.from c.args.to c.args.slots.now
      c.args.source.now (Some c.join_held-bay.result.0) c.move_known-reply.result c.move_known-reply.new.slots
      c.move_known-reply.new.source left) c.in-Some.is c.move_known-reply.ensures.moves,
)
