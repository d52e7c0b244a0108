use Rattle.std.proofs.Common.{◌∙◌, ap, List}
use Rattle.volume_core.specs.Volume.{Part, marks_upto}
use Rattle.cartridge.specs.Contents.{volume_made}
use Rattle.cartridge.specs.Notes.{noted_contents}
use Rattle.cartridge.proofs.OpenLemmas.{open_shape}
use Rattle.cartridge.proofs.cartridges.Cartridge.marks_upto.Goals as goal

pub returns-clause-marks : goal.returns-clause-marks
returns-clause-marks g c = rw (← c.self.view_is)
    (let i = c.self.inside in
    c.marks_upto.ensures.marks
    ∙ ap (λ (v : List Part). marks_upto v c.args.part c.args.n)
    (open_shape i.journal.front.head.heading i.journal.extents
    i.journal.failed i.index i.noted.notes c.self.invariant.0)
    ∙ c.a_volume_is_seen_by_its_shape.ensures.marks (volume_made (noted_contents i.noted.notes)) c.args.part c.args.n)
