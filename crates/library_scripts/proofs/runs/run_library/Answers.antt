use Rattle.std.proofs.Common.{ℕ, List, Bool, map, sym, subst, ◌∙◌, arith}
use Rattle.library.specs.Seats.{SeatState}
use Rattle.vtl_script.specs.Runs.{RunsScript}
use Rattle.library.specs.Counts.{has_drive, new_seat}
use Rattle.library.specs.Ends.{counts_of, sum_of_seats}
use Rattle.library_scripts.specs.Crews.{AnswersCrew}
use Rattle.library_scripts.specs.Inner.InPlace.{AreInPlace}
use Rattle.library_scripts.proofs.HostLemmas.{hosts_differ, hosts_in_place}
use Rattle.library_scripts.proofs.RanLemmas.{reported_of}
use Rattle.library_scripts.proofs.runs.run_library.Goals as goal

pub new-requires-clause-hosts : goal.new-requires-clause-hosts
new-requires-clause-hosts g c = hosts_differ c.args.parts.hosts.now c.requires.hosts

pub run_opened-seats-requires-clause-places : goal.run_opened-seats-requires-clause-places
run_opened-seats-requires-clause-places g c κs within =
    subst AreInPlace (sym c.in_ok-library.ensures.seats) (hosts_in_place c.args.parts.hosts.now c.requires.hosts)

pub returns-clause-runs : goal.returns-clause-runs
returns-clause-runs g c =
    let state = g.D.Disk.state in
    let left = g.I.Read.remaining c.args.reader.now in
    let before = g.O.Write.contents c.args.writer.now in
    let now = g.O.Write.contents c.run_opened-seats.new.writer in
    let outcome = c.run_opened-seats.result.outcome in
    let after = c.run_opened-seats.result.seats.items in
    let moved = c.run_opened-seats.result.operator in
    let library = c.in_ok-library.library in
    record {
      seats = after;
      moved = moved;
      runs =
          subst
          (λ (drives : List Bool). RunsScript (has_drive drives) (AnswersCrew state)
          (record { drives = drives; seats = map new_seat c.args.parts.hosts.now; moved = 0 }) left before
          (record { drives = drives; seats = after; moved = moved }) now outcome)
          c.in_ok-library.ensures.drives
          (subst
          (λ (seats : List SeatState). RunsScript (has_drive library) (AnswersCrew state)
          (record { drives = library; seats = seats; moved = 0 }) left before
          (record { drives = library; seats = after; moved = moved }) now outcome)
          c.in_ok-library.ensures.seats
          (subst
          (λ (begun : ℕ). RunsScript (has_drive library) (AnswersCrew state)
          (record { drives = library; seats = c.in_ok-library.seats.items; moved = begun }) left before
          (record { drives = library; seats = after; moved = moved }) now outcome)
          c.in_ok-library.ensures.operator c.run_opened-seats.ensures.runs));
      reported =
          reported_of c.finish.result.counts (counts_of c.finish.result.left.bays) (sum_of_seats after)
          c.finish.ensures.counts;
      sums =
          c.finish.ensures.sums.same
          (omega (
            arith,
            c.run_opened-seats.result.seats.ok,
            c.run_opened-seats.ensures.places.all,
            c.requires.host_ledger.1,
          ));
      used = c.finish.ensures.used;
    }

pub returns-clause-ends : goal.returns-clause-ends
returns-clause-ends g c = record {
  drives = c.finish.ensures.drives ∙ c.in_ok-library.ensures.drives;
  unwritten = c.finish.ensures.unwritten;
  written = c.finish.ensures.written;
  left = c.finish.ensures.left;
  all =
      c.finish.ensures.sums.all
      (omega (
        arith,
        c.run_opened-seats.result.seats.ok,
        c.run_opened-seats.ensures.places.all,
        c.requires.host_ledger.1,
      ));
}
