use Rattle.std.proofs.Common.{◌∙◌, ◌<◌, ap, subst, sym, List, ℕ}
use Rattle.volume_core.specs.Volume.{IsMarkOf, Part, mark_count}
use Rattle.object_index.specs.MarkFacts.{mark_of_by_shape}
use Rattle.cartridge.specs.Contents.{volume_made}
use Rattle.cartridge.specs.Notes.{noted_contents}
use Rattle.cartridge.proofs.OpenLemmas.{open_shape}
use Rattle.cartridge.proofs.cartridges.Cartridge.mark_at.Goals as goal

pub mark_at-requires-clause-mark : goal.mark_at-requires-clause-mark
mark_at-requires-clause-mark g c =
    let i = c.self.inside in
    let shape = open_shape i.journal.front.head.heading i.journal.extents i.journal.failed i.index i.noted.notes
    c.self.invariant.0 in
    subst (λ (n : ℕ). c.args.k < n)
    (sym (ap (λ (v : List Part). mark_count v c.args.part) shape
    ∙ c.a_volume_is_seen_by_its_shape.ensures.mark_count (volume_made (noted_contents i.noted.notes)) c.args.part))
    (rw (← c.self.view_is) at c.requires)

pub returns : goal.returns
returns g c = rw (← c.self.view_is)
    (let i = c.self.inside in
    let shape = open_shape i.journal.front.head.heading i.journal.extents i.journal.failed i.index i.noted.notes
    c.self.invariant.0 in
    mark_of_by_shape (volume_made (noted_contents i.noted.notes)) c.args.part c.args.k c.mark_at.result
    (subst (λ (v : List Part). IsMarkOf v c.args.part c.args.k c.mark_at.result) shape c.mark_at.ensures))
