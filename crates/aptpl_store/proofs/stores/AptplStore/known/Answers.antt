use Rattle.aptpl_store.proofs.ContentsLemmas.{opens_either}
use Rattle.aptpl_store.proofs.stores.AptplStore.known.Goals as goal

pub returns-clause-opens : goal.returns-clause-opens
returns-clause-opens g c = rw (← c.self.view_is) (λ h image left.
    let i = c.self.inside in
    opens_either i.journal.front.head.heading i.noted.notes.states i.noted.notes.torn image
    ((c.self.invariant.1 h).shows image left))
