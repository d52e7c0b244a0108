use Rattle.std.proofs.Common.{arith}
use Rattle.sealed_records.proofs.ReaderLemmas.{ends_badly}
use Rattle.sealed_records.proofs.reader.SealedReader.end.Goals as goal

pub returns-else-len-eq0 : goal.returns-else-len-eq0
returns-else-len-eq0 c =
    rw (← c.self.view_is)
    (λ bytes laids after.
    rw c.refusal-error.ensures (ends_badly bytes laids _ after (omega (arith, c.if-len-eq0.false, c.len.ensures.len))))
