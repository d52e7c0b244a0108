use Rattle.object_index.specs.Places.{PlacedPart}
use Rattle.object_index.proofs.Parts.{placed_of, limits_cut}
use Rattle.object_index.proofs.partitions.PlacedPartition.cut.Goals as goal

pub invariant_of-self : goal.invariant_of-self
invariant_of-self c =
    let part : PlacedPart = placed_of c.self.inside.capacity c.self.inside.table in
    rw c.cut.ensures.objects (limits_cut part c.args.n c.cut.new.self.reserved c.self.invariant)

pub returns-clause-limits : goal.returns-clause-limits
returns-clause-limits c =
    let part : PlacedPart = placed_of c.self.inside.capacity c.self.inside.table in
    rw c.cut.ensures.objects (limits_cut part c.args.n c.cut.new.self.reserved c.self.invariant)
