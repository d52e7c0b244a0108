use Rattle.std.proofs.Common.{arith}
use Rattle.std.proofs.lemmas.List.{length-map}
use Rattle.object_index.specs.Places.{blank, filled}
use Rattle.object_index.proofs.RunLemmas.{few_steps}
use Rattle.object_index.proofs.partitions.PlacedPartition.run_upto.Goals as goal

pub returns-clause-most : goal.returns-clause-most
returns-clause-most c =
    let objects = c.self.inside.table.objects in
    few_steps objects _ _ c.run_upto.ensures.steps
    (omega (arith, c.self.invariant.few, length-map objects (filled blank)))
