use Rattle.std.proofs.Common.{take}
use Rattle.std.specs.Prelude.{flat_map}
use Rattle.std.specs.Io.KnownBytes.{Appends}
use Rattle.vtl_wire.specs.Answers.{spell_entry}
use Rattle.vtl_wire.proofs.answer_writers.write_entries.Given as goal

-- the entries so far were written
abbrev pub invariant-loop-entry : goal.invariant-loop-entry
invariant-loop-entry g l =
    Appends (g.W.Write.contents l.fn.writer) (g.W.Write.contents l.writer)
    (flat_map spell_entry (take l.entry-index l.entries))
