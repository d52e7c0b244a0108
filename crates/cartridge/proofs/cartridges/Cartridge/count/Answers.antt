use Rattle.std.proofs.Common.{◌∙◌, ap, List}
use Rattle.volume_core.specs.Volume.{Part, count_of}
use Rattle.cartridge.specs.Contents.{volume_made}
use Rattle.cartridge.specs.Notes.{noted_contents}
use Rattle.cartridge.proofs.OpenLemmas.{open_shape}
use Rattle.cartridge.proofs.cartridges.Cartridge.count.Goals as goal

pub returns-clause-count : goal.returns-clause-count
returns-clause-count g c = rw (← c.self.view_is)
    (let i = c.self.inside in
    c.count.ensures.count
    ∙ ap (λ (v : List Part). count_of v c.args.part)
    (open_shape i.journal.front.head.heading i.journal.extents
    i.journal.failed i.index i.noted.notes c.self.invariant.0)
    ∙ c.a_volume_is_seen_by_its_shape.ensures.count (volume_made (noted_contents i.noted.notes)) c.args.part)
