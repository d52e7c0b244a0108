use Rattle.std.proofs.Common.{◌∙◌}
use Rattle.cartridge.specs.Contents.{volume_made}
use Rattle.cartridge.specs.Lying.{LiesOnSide}
use Rattle.cartridge.specs.Notes.{noted_contents}
use Rattle.cartridge.proofs.ReclaimLemmas.{byte_count, frame_count}
use Rattle.cartridge.proofs.reclaiming.copy_totals.Goals as goal

pub returns-clause-frames : goal.returns-clause-frames
returns-clause-frames g c =
    let i = c.cartridge.inside in
    let notes = i.noted.notes in
    rw (← c.cartridge.view_is)
    (c.of.ensures.frames
    ∙ frame_count (LiesOnSide notes i.journal.extents) (volume_made (noted_contents notes)) i.index
    c.cartridge.invariant.0.lies)

pub returns-clause-bytes : goal.returns-clause-bytes
returns-clause-bytes g c =
    let i = c.cartridge.inside in
    let notes = i.noted.notes in
    rw (← c.cartridge.view_is)
    (c.of.ensures.bytes
    ∙ byte_count (LiesOnSide notes i.journal.extents) (volume_made (noted_contents notes)) i.index
    c.cartridge.invariant.0.lies)
