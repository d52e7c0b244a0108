use Rattle.std.proofs.Common.{◌∙◌, Option, Some, subst, sym}
use Rattle.split_bay.specs.Fronts.{FrontState}
use Rattle.library.specs.Halves.{HasShare}
use Rattle.library.proofs.HalfLemmas.{renews, room_accepted}
use Rattle.library.proofs.places.FrontPlace.renew.Goals as goal

pub returns : goal.returns
returns g c =
    let made = c.make_room-made in
    renews g.D.Disk.state (Some c.in-Some.hosts) c.args.self.now (Some c.in-Some-half.disks) c.args.back.now made.result
    (Some made.new.front) (Some made.new.back) (sym c.in-Some.is ∙ c.self.view_is)
    (sym c.in-Some-half.is ∙ c.back.view_is) (made.ensures, c.known_halves.ensures)

pub invariant_of-self : goal.invariant_of-self
invariant_of-self g c =
    let made = c.make_room-made in
    subst (λ (h : Option (FrontState g.row.D.Denot)). HasShare h c.self.inside.share) c.in-Some.is c.self.invariant
    ∙ sym (room_accepted g.D.Disk.state c.in-Some.hosts c.in-Some-half.disks made.result made.new.front made.new.back
    made.ensures)
