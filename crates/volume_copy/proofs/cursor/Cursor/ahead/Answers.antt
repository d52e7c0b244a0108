use Rattle.std.proofs.Common.{◌≡◌, ◌∷◌, sym, ap, ◌∙◌}
use Rattle.std.specs.Prelude.{Some, slice_get}
use Rattle.object_index.specs.declared.places.Placed.TheVariants.{Block}
use Rattle.object_index.specs.Places.{placed_objects}
use Rattle.volume_copy.specs.Entries.{block_entry, entries_from, marks_entry}
use Rattle.volume_copy.specs.EntryFacts.{block_next, run_next}
use Rattle.volume_copy.proofs.cursor.Cursor.ahead.Goals as goal

pub returns-in-Block : goal.returns-in-Block
returns-in-Block c =
    let parts = c.args.index.now in
    let part = c.args.self.part in
    let at = c.args.self.at in
    let is : slice_get (placed_objects parts part) at ≡ Some (Block c.in-Block.place c.in-Block.length) =
    c.requires ∙ ap Some c.in-Block.is in
    block_next parts part at c.in-Block.place c.in-Block.length is
    ∙ (λ i. block_entry part at c.in-Block.place c.in-Block.length ∷
    entries_from parts (sym c.behind.ensures.part i) (sym c.behind.ensures.at i))

pub returns-in-Mark : goal.returns-in-Mark
returns-in-Mark c =
    let parts = c.args.index.now in
    let part = c.args.self.part in
    let at = c.args.self.at in
    let count = c.marks-count.result in
    run_next parts part at count c.marks-count.ensures.runs
    ∙ (λ i. marks_entry part at count ∷
    entries_from parts (sym c.behind-in-Mark.ensures.part i) (sym c.behind-in-Mark.ensures.at i))
