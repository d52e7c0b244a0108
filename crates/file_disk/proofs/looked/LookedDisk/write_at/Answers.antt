use Rattle.file_disk.proofs.TransferLemmas.{not_written}
use Rattle.file_disk.proofs.looked.LookedDisk.write_at.Goals as goal

pub returns-clause-writes : goal.returns-clause-writes
returns-clause-writes g c = λ honest.
    not_written _ _ (c.refuse.ensures.same honest) c.refuse.result c.args._at c.args._bytes.now
