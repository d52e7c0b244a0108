use Rattle.std.proofs.Common.{◌∙◌, sym}
use Rattle.change_records.specs.Records.{outlined}
use Rattle.object_index.specs.Places.{blank}
use Rattle.object_index.specs.Facts.{staying_filled, target_filled}
use Rattle.object_index.proofs.index.Index.refusal.Goals as goal

pub returns : goal.returns
returns c =
    c.refusal_for.ensures (outlined c.args.item) (target_filled blank c.args.item 0 ∙ sym c.part.ensures)
    (staying_filled blank c.args.item 0 ∙ sym c.staying.ensures) (sym c.demand.ensures)
