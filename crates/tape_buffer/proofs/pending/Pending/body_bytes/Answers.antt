use Rattle.std.proofs.Common.{List, ap, arith, length}
use Rattle.volume_core.specs.declared.changes.Change.{Change}
use Rattle.change_records.specs.Records.{spell_all}
use Rattle.tape_buffer.proofs.PendingLemmas.{records_of}
use Rattle.tape_buffer.proofs.pending.Pending.body_bytes.Goals as goal

pub returns-clause-value : goal.returns-clause-value
returns-clause-value c =
    let changes = c.self.inside.changes in
    omega (
      arith,
      c.len.ensures,
      changes.ok.0,
      c.self.invariant.1,
      records_of changes.items,
      ap (λ (l : List Change). length (spell_all l)) c.self.view_is,
    )
