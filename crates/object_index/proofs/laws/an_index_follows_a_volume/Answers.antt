use Rattle.object_index.specs.Facts.{shape_after, blocks_after}
use Rattle.object_index.proofs.laws.an_index_follows_a_volume.Goals as goal

pub returns-clause-shape : goal.returns-clause-shape
returns-clause-shape c = shape_after

pub returns-clause-blocks : goal.returns-clause-blocks
returns-clause-blocks c = blocks_after
