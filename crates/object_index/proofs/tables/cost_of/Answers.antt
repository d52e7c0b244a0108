use Rattle.std.proofs.Common.{◌-◌, arith, sym}
use Rattle.std.specs.Prelude.{slice_index_or}
use Rattle.std.proofs.lemmas.Option.{slice_get-get_or}
use Rattle.object_index.specs.declared.tables.BlockEntry.{BlockEntry}
use Rattle.object_index.proofs.TableLemmas.{cost_is}
use Rattle.object_index.proofs.tables.cost_of.Goals as goal

pub returns-else-count-eq0 : goal.returns-else-count-eq0
returns-else-count-eq0 c =
    let blocks = c.args.blocks.now in
    let last = c.args.count - 1 in
    let none : BlockEntry = record { place = 0; cost = 0; number = 0; size = 0 } in
    sym (cost_is blocks c.args.count (slice_index_or blocks last none) c.requires.table (omega arith)
    (slice_get-get_or blocks last none (omega arith)))
