use Rattle.file_disk.specs.Inner.SystemFile.{of_honest}
use Rattle.file_disk.proofs.opening.create.Goals as goal

pub new-disk-requires-clause-reaches : goal.new-disk-requires-clause-reaches
new-disk-requires-clause-reaches c = λ honest. of_honest _ honest

pub new-disk-requires-clause-synced : goal.new-disk-requires-clause-synced
new-disk-requires-clause-synced c = λ honest. of_honest _ honest
