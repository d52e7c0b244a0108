use Rattle.cartridge.specs.Notes.{with_torn}
use Rattle.cartridge.proofs.noted.Noted.with_torn.Given as goal

abbrev pub ghost-note : goal.ghost-note
ghost-note a = with_torn a._from.now.0.now.notes a._from.now.1.now
