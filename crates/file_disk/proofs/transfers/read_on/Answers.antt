use Rattle.std.proofs.Common.{◌∙◌, refl}
use Rattle.std.proofs.lemmas.List.{take-append-le}
use Rattle.file_disk.proofs.TransferLemmas.{read_behind}
use Rattle.file_disk.proofs.transfers.read_on.Goals as goal

pub returns-else-count-eq0-clause-bytes : goal.returns-else-count-eq0-clause-bytes
returns-else-count-eq0-clause-bytes g c = λ honest before.
    read_behind (g.F.RawFile.state c.args.file.now).seen c.args.buffer.now _ _ c.args.at c.args.done c.in-Ok.count
    c.requires.done refl before
    (take-append-le c.in-Ok.count c.read_some.new.buffer _ c.in-Ok.ensures.bound ∙ c.in-Ok.ensures.bytes honest)
