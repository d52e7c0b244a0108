use Rattle.cartridge.proofs.DisksLemmas.{honest_by}
use Rattle.cartridge.proofs.ShownLemmas.{room_now, shown_now, sure_now}
use Rattle.cartridge.proofs.cartridges.Cartridge.known.Goals as goal

pub returns-clause-shows : goal.returns-clause-shows
returns-clause-shows g c = rw (← c.self.view_is) (λ h.
    let i = c.self.inside in
    shown_now g.D.Disk.state i.which i.journal i.spare i.index i.noted.notes c.self.invariant.0 (c.self.invariant.2 h))

pub returns-clause-sure : goal.returns-clause-sure
returns-clause-sure g c = rw (← c.self.view_is) (λ h fine.
    let i = c.self.inside in
    sure_now g.D.Disk.state i.which i.journal i.spare i.index i.noted.notes c.self.invariant.0 (c.self.invariant.2 h)
    fine)

pub returns-clause-room : goal.returns-clause-room
returns-clause-room g c = rw (← c.self.view_is) (λ h.
    let i = c.self.inside in
    room_now g.D.Disk.state i.which i.journal i.spare i.index i.noted.notes c.self.invariant.0 (c.self.invariant.2 h)
    (c.known.ensures.end (honest_by g.D.Disk.state i.which i.journal.disk i.spare h).0))
