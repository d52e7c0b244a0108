use Rattle.std.proofs.Common.{List, subst, sym}
use Rattle.object_index.specs.declared.tables.BlockEntry.{BlockEntry}
use Rattle.object_index.specs.Inner.Tables.{IsTable}
use Rattle.object_index.proofs.tables.ObjectTable.place.Goals as goal

pub object_at-requires-clause-table : goal.object_at-requires-clause-table
object_at-requires-clause-table c =
    subst (λ (l : List BlockEntry). IsTable l) (sym c.deref.ensures.value) c.self.invariant.0.table
