use Rattle.std.proofs.Common.{[], unwrap_or}
use Rattle.change_records.specs.ChangesOn.{changes_on}
use Rattle.cartridge.specs.Notes.{with_frame}
use Rattle.cartridge.proofs.noted.Noted.with_body.Given as goal

abbrev pub ghost-note : goal.ghost-note
ghost-note a = with_frame a._from.now.0.now.notes (unwrap_or (changes_on a._from.now.1.now.bytes) [])
