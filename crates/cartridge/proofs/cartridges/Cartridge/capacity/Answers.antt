use Rattle.std.proofs.Common.{◌∙◌, ap, List}
use Rattle.volume_core.specs.Volume.{Part, capacity_of}
use Rattle.cartridge.specs.Contents.{volume_made}
use Rattle.cartridge.specs.Notes.{noted_contents}
use Rattle.cartridge.proofs.OpenLemmas.{open_shape}
use Rattle.cartridge.proofs.cartridges.Cartridge.capacity.Goals as goal

pub returns-clause-capacity : goal.returns-clause-capacity
returns-clause-capacity g c = rw (← c.self.view_is)
    (let i = c.self.inside in
    c.capacity.ensures.capacity
    ∙ ap (λ (v : List Part). capacity_of v c.args.part)
    (open_shape i.journal.front.head.heading i.journal.extents
    i.journal.failed i.index i.noted.notes c.self.invariant.0)
    ∙ c.a_volume_is_seen_by_its_shape.ensures.capacity (volume_made (noted_contents i.noted.notes)) c.args.part)
