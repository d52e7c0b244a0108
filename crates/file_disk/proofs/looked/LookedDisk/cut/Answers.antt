use Rattle.file_disk.proofs.TransferLemmas.{not_cut}
use Rattle.file_disk.proofs.looked.LookedDisk.cut.Goals as goal

pub returns-clause-cuts : goal.returns-clause-cuts
returns-clause-cuts g c = λ honest. not_cut _ _ (c.refuse.ensures.same honest) c.refuse.result c.args._len
