use Rattle.library.proofs.HalfLemmas.{end_share, ends_held}
use Rattle.library.proofs.places.FrontPlace.end.Goals as goal

pub returns-clause-left : goal.returns-clause-left
returns-clause-left g c =
    ends_held g.D.Disk.state c.self.inside.half c.args.self c.back.inside.half c.args.back c.join_held-bay.result.0
    c.write_out-written.new.self c.join_held-bay.result.1 c.self.view_is c.back.view_is c.join_held-bay.ensures
    (record {
      old_keeps = c.known_drive.ensures;
      turns = c.write_out-written.ensures.turns;
      keeps = c.known_drive-2.ensures;
    })

pub returns-clause-share : goal.returns-clause-share
returns-clause-share g c =
    end_share g.D.Disk.state c.self.inside.half c.back.inside.half c.join_held-bay.result.0 c.write_out-written.new.self
    c.join_held-bay.result.1 c.self.inside.share c.self.invariant c.join_held-bay.ensures
    c.write_out-written.ensures.turns.1.accepted
