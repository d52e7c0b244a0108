use Rattle.std.proofs.Common.{◌++◌}
use Rattle.gate_journal.proofs.noted.NotedBytes.with.Given as goal

abbrev pub ghost-note : goal.ghost-note
ghost-note a = a._from.now.0.now.bytes ++ a._from.now.1.now
