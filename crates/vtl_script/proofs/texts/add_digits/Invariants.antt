use Rattle.std.proofs.Common.{length}
use Rattle.vtl_script.proofs.TextLemmas.{AreAdded}
use Rattle.vtl_script.proofs.texts.add_digits.Given as goal

-- the digits of the first bytes were added
abbrev pub invariant-loop-rest : goal.invariant-loop-rest
invariant-loop-rest g l =
    AreAdded (g.W.Write.contents l.fn.writer) l.fn.text l.bytes (g.W.Write.contents l.writer) l.text l.rest

abbrev pub decreases-loop-rest : goal.decreases-loop-rest
decreases-loop-rest g l = length l.rest
