use Rattle.library.specs.RingRows.{ring_at}
use Rattle.test_library.proofs.days.spend.Given as goal

abbrev pub ghosts-spend_over-B-Ledger : goal.ghosts-spend_over-B-Ledger
ghosts-spend_over-B-Ledger g a = record { name = a.parts.bay_ledger.name; parts = a.parts.bay_ledger.parts }

abbrev pub ghosts-spend_over-B-Parties : goal.ghosts-spend_over-B-Parties
ghosts-spend_over-B-Parties g a = record { all = a.parts.bay_ledger.parts }

abbrev pub ghosts-spend_over-B-Rings : goal.ghosts-spend_over-B-Rings
ghosts-spend_over-B-Rings g a = record { ring = ring_at a.parts.rings }

abbrev pub ghosts-spend_over-H-Ledger : goal.ghosts-spend_over-H-Ledger
ghosts-spend_over-H-Ledger g a = record { name = a.parts.host_ledger.name; parts = a.parts.host_ledger.parts }

abbrev pub ghosts-spend_over-H-Parties : goal.ghosts-spend_over-H-Parties
ghosts-spend_over-H-Parties g a = record { all = a.parts.host_ledger.parts }
