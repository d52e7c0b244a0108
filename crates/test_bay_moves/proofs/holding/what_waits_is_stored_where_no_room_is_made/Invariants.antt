use Rattle.std.specs.Prelude.{Some}
use Rattle.test_bay_moves.proofs.holding.what_waits_is_stored_where_no_room_is_made.Given as goal

abbrev pub ghosts-makes_room : goal.ghosts-makes_room
ghosts-makes_room g a = record { ring = λ number. Some a.ring }
