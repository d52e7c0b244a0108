use Rattle.std.proofs.Common.{◌∙◌, ap, List}
use Rattle.volume_core.specs.Volume.{Part, kind_at}
use Rattle.cartridge.specs.Contents.{volume_made}
use Rattle.cartridge.specs.Notes.{noted_contents}
use Rattle.cartridge.proofs.OpenLemmas.{open_shape}
use Rattle.cartridge.proofs.cartridges.Cartridge.kind_at.Goals as goal

pub returns : goal.returns
returns g c = rw (← c.self.view_is)
    (let i = c.self.inside in
    c.kind_at.ensures
    ∙ ap (λ (v : List Part). kind_at v c.args.part c.args.at)
    (open_shape i.journal.front.head.heading i.journal.extents
    i.journal.failed i.index i.noted.notes c.self.invariant.0)
    ∙ c.a_volume_is_seen_by_its_shape.ensures.kind (volume_made (noted_contents i.noted.notes)) c.args.part c.args.at)
