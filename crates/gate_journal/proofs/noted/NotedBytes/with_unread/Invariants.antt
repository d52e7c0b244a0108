use Rattle.std.proofs.Common.{[], ◌++◌, drop}
use Rattle.std.specs.Prelude.{slice_index_or}
use Rattle.gate_journal.specs.Inner.Padding.{padded_to}
use Rattle.gate_journal.proofs.noted.NotedBytes.with_unread.Given as goal

abbrev pub ghost-note_both : goal.ghost-note_both
ghost-note_both g a =
    a._with.now.0.now.bytes
    ++ padded_to a._with.now.3 (drop a._with.now.2 (slice_index_or a._from.now.bodies a._with.now.1 []))
