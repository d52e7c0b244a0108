use Rattle.file_disk.proofs.RestedLemmas.{same_behind}
use Rattle.file_disk.proofs.TransferLemmas.{not_cut}
use Rattle.file_disk.proofs.disk.DiskOverDisk.cut.Goals as goal

pub returns-in_default-clause-cuts : goal.returns-in_default-clause-cuts
returns-in_default-clause-cuts g c = λ honest.
    let rested = rw c.is_measured.ensures.same at c.begin.ensures.rested in
    let after = c.refuse-in_default.ensures.same (rested.honesty.stays_honest honest) in
    let same = same_behind _ _ _ (rested.rests honest) after in
    not_cut _ _ (record { seen = same.seen; crash = same.crash }) c.refuse-in_default.result c.args.len
