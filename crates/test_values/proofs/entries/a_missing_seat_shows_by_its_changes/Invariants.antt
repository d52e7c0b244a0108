use Rattle.test_values.proofs.entries.a_missing_seat_shows_by_its_changes.Given as goal

abbrev pub ghosts-gathered-B-Ledger : goal.ghosts-gathered-B-Ledger
ghosts-gathered-B-Ledger a b = record { name = b.bay_ledger.name; parts = b.bay_ledger.parts }

abbrev pub ghosts-gathered-B-Parties : goal.ghosts-gathered-B-Parties
ghosts-gathered-B-Parties a b = record { all = b.bay_ledger.parts }

abbrev pub ghosts-gathered-H-Ledger : goal.ghosts-gathered-H-Ledger
ghosts-gathered-H-Ledger a b = record { name = b.host_ledger.name; parts = b.host_ledger.parts }

abbrev pub ghosts-gathered-H-Parties : goal.ghosts-gathered-H-Parties
ghosts-gathered-H-Parties a b = record { all = b.host_ledger.parts }
