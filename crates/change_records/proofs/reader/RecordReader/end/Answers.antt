use Rattle.std.proofs.Common.{arith}
use Rattle.change_records.proofs.ReaderLemmas.{ends_badly}
use Rattle.change_records.proofs.reader.RecordReader.end.Goals as goal

pub returns-else-len-eq0 : goal.returns-else-len-eq0
returns-else-len-eq0 c =
    rw (← c.self.view_is)
    (λ bytes changes after. ends_badly bytes changes _ after (omega (arith, c.if-len-eq0.false, c.len.ensures.len)))
