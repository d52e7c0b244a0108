use Rattle.library.specs.RingRows.{ring_at}
use Rattle.vtl_power_on.proofs.using.with_library.Given as goal

abbrev pub ghosts-run_library-B-Ledger : goal.ghosts-run_library-B-Ledger
ghosts-run_library-B-Ledger g a = record { name = a.parts.bay_ledger.name; parts = a.parts.bay_ledger.parts }

abbrev pub ghosts-run_library-B-Parties : goal.ghosts-run_library-B-Parties
ghosts-run_library-B-Parties g a = record { all = a.parts.bay_ledger.parts }

abbrev pub ghosts-run_library-B-Rings : goal.ghosts-run_library-B-Rings
ghosts-run_library-B-Rings g a = record { ring = ring_at a.parts.rings }

abbrev pub ghosts-run_library-H-Ledger : goal.ghosts-run_library-H-Ledger
ghosts-run_library-H-Ledger g a = record { name = a.parts.host_ledger.name; parts = a.parts.host_ledger.parts }

abbrev pub ghosts-run_library-H-Parties : goal.ghosts-run_library-H-Parties
ghosts-run_library-H-Parties g a = record { all = a.parts.host_ledger.parts }

abbrev pub ghosts-serve_library-B-Ledger : goal.ghosts-serve_library-B-Ledger
ghosts-serve_library-B-Ledger g a = record { name = a.parts.bay_ledger.name; parts = a.parts.bay_ledger.parts }

abbrev pub ghosts-serve_library-B-Parties : goal.ghosts-serve_library-B-Parties
ghosts-serve_library-B-Parties g a = record { all = a.parts.bay_ledger.parts }

abbrev pub ghosts-serve_library-B-Rings : goal.ghosts-serve_library-B-Rings
ghosts-serve_library-B-Rings g a = record { ring = ring_at a.parts.rings }

abbrev pub ghosts-serve_library-H-Ledger : goal.ghosts-serve_library-H-Ledger
ghosts-serve_library-H-Ledger g a = record { name = a.parts.host_ledger.name; parts = a.parts.host_ledger.parts }

abbrev pub ghosts-serve_library-H-Parties : goal.ghosts-serve_library-H-Parties
ghosts-serve_library-H-Parties g a = record { all = a.parts.host_ledger.parts }
