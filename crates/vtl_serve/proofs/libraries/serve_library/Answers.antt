use Rattle.std.proofs.Common.{◌≡◌, ◌∙◌, ℕ, List, Bool, Option, map, arith, subst}
use Rattle.library.specs.Seats.{SeatState}
use Rattle.library.specs.Counts.{new_seat}
use Rattle.library.specs.Ends.{counts_of, sum_of_counts, sum_of_seats}
use Rattle.vtl_serve.specs.Libraries.{ServesOpened}
use Rattle.vtl_serve.proofs.SharedLemmas.{hosts_differ, reported_of}
use Rattle.vtl_serve.proofs.libraries.serve_library.Goals as goal

pub new-requires-clause-hosts : goal.new-requires-clause-hosts
new-requires-clause-hosts g c = hosts_differ c.args.parts.hosts.now 64 c.requires.hosts

pub returns-clause-serves : goal.returns-clause-serves
returns-clause-serves g c =
    let state = g.D.Disk.state in
    let left = g.I.Read.remaining c.args.reader.now in
    let before = g.W.Write.contents c.args.writer.now in
    let left' = g.I.Read.remaining c.serve_opened-seats.new.reader in
    let now = g.W.Write.contents c.serve_opened-seats.new.writer in
    let outcome = c.serve_opened-seats.result.outcome in
    let after = c.serve_opened-seats.result.seats.items in
    let moved = c.serve_opened-seats.result.operator in
    record {
      seats = after;
      moved = moved;
      serves =
          subst
          (λ (drives : List Bool). ServesOpened state drives c.args.labels 0 (map new_seat c.args.parts.hosts.now) left
          before moved after left' now outcome)
          c.in_ok-library.ensures.drives
          (subst
          (λ (seats : List SeatState). ServesOpened state c.in_ok-library.library c.args.labels 0 seats left before
          moved after left' now outcome)
          c.in_ok-library.ensures.seats
          (subst
          (λ (begun : ℕ). ServesOpened state c.in_ok-library.library c.args.labels begun c.in_ok-library.seats.items
          left before moved after left' now outcome)
          c.in_ok-library.ensures.operator c.serve_opened-seats.ensures.serves));
      reported =
          reported_of c.finish.result.counts (counts_of c.finish.result.left.bays)
          (λ (counts : List (Option ℕ)). sum_of_counts counts ≡ sum_of_seats after) c.finish.ensures.counts;
      sums =
          c.finish.ensures.sums.same
          (omega (
            arith,
            c.serve_opened-seats.result.seats.ok,
            c.serve_opened-seats.ensures.all,
            c.requires.host_ledger.1,
          ));
      used = c.finish.ensures.used;
    }

pub returns-clause-ends : goal.returns-clause-ends
returns-clause-ends g c = record {
  drives = c.finish.ensures.drives ∙ c.in_ok-library.ensures.drives;
  unwritten = c.finish.ensures.unwritten;
  written = c.finish.ensures.written;
  left = c.finish.ensures.left;
  all =
      c.finish.ensures.sums.all
      (omega (
        arith,
        c.serve_opened-seats.result.seats.ok,
        c.serve_opened-seats.ensures.all,
        c.requires.host_ledger.1,
      ));
}
