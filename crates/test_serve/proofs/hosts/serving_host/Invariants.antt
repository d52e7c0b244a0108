use Rattle.library.specs.RingRows.{ring_at}
use Rattle.test_serve.proofs.hosts.serving_host.Given as goal

abbrev pub ghosts-serve_over-B-Ledger : goal.ghosts-serve_over-B-Ledger
ghosts-serve_over-B-Ledger g a = record { name = a.parts.bay_ledger.name; parts = a.parts.bay_ledger.parts }

abbrev pub ghosts-serve_over-B-Parties : goal.ghosts-serve_over-B-Parties
ghosts-serve_over-B-Parties g a = record { all = a.parts.bay_ledger.parts }

abbrev pub ghosts-serve_over-B-Rings : goal.ghosts-serve_over-B-Rings
ghosts-serve_over-B-Rings g a = record { ring = ring_at a.parts.rings }

abbrev pub ghosts-serve_over-H-Ledger : goal.ghosts-serve_over-H-Ledger
ghosts-serve_over-H-Ledger g a = record { name = a.parts.host_ledger.name; parts = a.parts.host_ledger.parts }

abbrev pub ghosts-serve_over-H-Parties : goal.ghosts-serve_over-H-Parties
ghosts-serve_over-H-Parties g a = record { all = a.parts.host_ledger.parts }
