use Rattle.std.proofs.Common.{arith, sym, ◌∙◌}
use Rattle.object_index.specs.Places.{PlacedPart}
use Rattle.object_index.proofs.Parts.{placed_of, used_taken, used_within}
use Rattle.object_index.proofs.partitions.PlacedPartition.used.Goals as goal

pub returns-clause-used : goal.returns-clause-used
returns-clause-used c =
    rw (← c.self.view_is) (c.used.ensures ∙ sym (used_taken c.self.inside.table.objects c.args.n))

pub returns-clause-bound : goal.returns-clause-bound
returns-clause-bound c =
    let part : PlacedPart = placed_of c.self.inside.capacity c.self.inside.table in
    let within = used_within part c.args.n c.self.invariant in
    rw (← c.self.view_is) (omega (arith, c.used.ensures, within))
