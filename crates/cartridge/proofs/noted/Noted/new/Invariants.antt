use Rattle.std.proofs.Common.{[]}
use Rattle.gate_journal.specs.Side.{heading_of}
use Rattle.cartridge.proofs.noted.Noted.new.Given as goal

abbrev pub ghost-note : goal.ghost-note
ghost-note a = record { heading = heading_of a._from.now; frames = []; torn = [] }
