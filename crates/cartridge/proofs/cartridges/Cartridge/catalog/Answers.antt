use Rattle.cartridge.specs.Contents.{volume_made}
use Rattle.cartridge.specs.Notes.{noted_contents}
use Rattle.cartridge.proofs.CatalogLemmas.{catalog_of}
use Rattle.cartridge.proofs.OpenLemmas.{open_shape}
use Rattle.cartridge.proofs.cartridges.Cartridge.catalog.Goals as goal

pub returns : goal.returns
returns g c = rw (← c.self.view_is)
    (let i = c.self.inside in
    catalog_of c.copy.result i.index (volume_made (noted_contents i.noted.notes)) c.copy.ensures
    (open_shape i.journal.front.head.heading i.journal.extents
    i.journal.failed i.index i.noted.notes c.self.invariant.0))
