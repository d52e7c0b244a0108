use Rattle.std.proofs.Common.{◌∙◌}
use Rattle.cartridge.proofs.OpenLemmas.{open_parts}
use Rattle.cartridge.proofs.cartridges.Cartridge.parts.Goals as goal

pub returns-clause-parts : goal.returns-clause-parts
returns-clause-parts g c = rw (← c.self.view_is)
    (let i = c.self.inside in
    c.parts.ensures.parts
    ∙ open_parts i.journal.front.head.heading i.journal.extents
    i.journal.failed i.index i.noted.notes c.self.invariant.0)
