use Rattle.std.proofs.Common.{◌≡◌, ◌∙◌, ap, arith, List}
use Rattle.volume_core.specs.Volume.{Part, capacity_of, used_up_to}
use Rattle.object_index.specs.Places.{outline}
use Rattle.cartridge.specs.Contents.{volume_made}
use Rattle.cartridge.specs.Notes.{noted_contents}
use Rattle.cartridge.proofs.OpenLemmas.{open_shape}
use Rattle.cartridge.proofs.cartridges.Cartridge.used.Goals as goal

pub returns-clause-used : goal.returns-clause-used
returns-clause-used g c = rw (← c.self.view_is)
    (let i = c.self.inside in
    c.used.ensures.used
    ∙ ap (λ (v : List Part). used_up_to v c.args.part c.args.n)
    (open_shape i.journal.front.head.heading i.journal.extents
    i.journal.failed i.index i.noted.notes c.self.invariant.0)
    ∙ c.a_volume_is_seen_by_its_shape.ensures.used (volume_made (noted_contents i.noted.notes)) c.args.part c.args.n)

pub returns-clause-bound : goal.returns-clause-bound
returns-clause-bound g c = rw (← c.self.view_is)
    (let i = c.self.inside in
    let volume = volume_made (noted_contents i.noted.notes) in
    let same : capacity_of (outline i.index) c.args.part ≡ capacity_of volume c.args.part =
    ap (λ (v : List Part). capacity_of v c.args.part)
    (open_shape i.journal.front.head.heading i.journal.extents
    i.journal.failed i.index i.noted.notes c.self.invariant.0)
    ∙ c.a_volume_is_seen_by_its_shape.ensures.capacity volume c.args.part in
    omega (arith, c.used.ensures.bound, same))
