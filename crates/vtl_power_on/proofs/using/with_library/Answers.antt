use Rattle.std.proofs.Common.{◌≡◌, ◌∙◌, inl, ap, refl, sym}
use Rattle.library.specs.Counts.{places_filled, which_are_there}
use Rattle.vtl_power_on.proofs.UsingLemmas.{put_together, ran_over, served_over, unused}
use Rattle.vtl_power_on.proofs.using.with_library.Goals as goal

-- memory ran out for the parts
pub returns-in-Err : goal.returns-in-Err
returns-in-Err g c =
    rw c.in_ok-start.was (
      c.in-Err.back,
      unused g.D.Disk.state c.args.work c.in_ok-start.field-0 c.in-Err.back (g.I.Read.remaining c.args.reader.now)
          (g.W.Write.contents c.args.writer.now) c.close.result c.close.ensures.outcome c.in-Err.ensures.back,
      c.close.ensures.closed,
    )

-- what both uses require of the parts
pub run_library-requires-clause-fresh : goal.run_library-requires-clause-fresh
run_library-requires-clause-fresh g c κs within = rw c.in-Ok.ensures.parts.0 (rw c.in_ok-start.was at c.requires)

pub run_library-requires-clause-rings : goal.run_library-requires-clause-rings
run_library-requires-clause-rings g c κs within =
    (c.in-Ok.ensures.rings ∙ ap which_are_there (sym c.in-Ok.ensures.parts.0), refl)

pub run_library-requires-clause-hosts : goal.run_library-requires-clause-hosts
run_library-requires-clause-hosts g c κs within = c.in-Ok.ensures.hosts ∙ c.every_host-hosts.ensures

pub run_library-requires-clause-bay_ledger : goal.run_library-requires-clause-bay_ledger
run_library-requires-clause-bay_ledger g c κs within = (
  record { named = refl; cut = refl; one_each = refl },
  c.in-Ok.ensures.ledgers.0 ∙ ap places_filled (sym c.in-Ok.ensures.parts.0),
)

pub run_library-requires-clause-host_ledger : goal.run_library-requires-clause-host_ledger
run_library-requires-clause-host_ledger g c κs within =
    (record { named = refl; cut = refl; one_each = refl }, c.in-Ok.ensures.ledgers.1)

pub serve_library-requires-clause-fresh : goal.serve_library-requires-clause-fresh
serve_library-requires-clause-fresh g c κs within = rw c.in-Ok.ensures.parts.0 (rw c.in_ok-start.was at c.requires)

pub serve_library-requires-clause-rings : goal.serve_library-requires-clause-rings
serve_library-requires-clause-rings g c κs within =
    (c.in-Ok.ensures.rings ∙ ap which_are_there (sym c.in-Ok.ensures.parts.0), refl)

pub serve_library-requires-clause-hosts : goal.serve_library-requires-clause-hosts
serve_library-requires-clause-hosts g c κs within = c.in-Ok.ensures.hosts ∙ c.every_host-hosts.ensures

pub serve_library-requires-clause-bay_ledger : goal.serve_library-requires-clause-bay_ledger
serve_library-requires-clause-bay_ledger g c κs within = (
  record { named = refl; cut = refl; one_each = refl },
  c.in-Ok.ensures.ledgers.0 ∙ ap places_filled (sym c.in-Ok.ensures.parts.0),
)

pub serve_library-requires-clause-host_ledger : goal.serve_library-requires-clause-host_ledger
serve_library-requires-clause-host_ledger g c κs within =
    (record { named = refl; cut = refl; one_each = refl }, c.in-Ok.ensures.ledgers.1)

-- a script
pub returns-in-Ok-run_library : goal.returns-in-Ok-run_library
returns-in-Ok-run_library g c =
    let done = c.in-Ok-run_library.field-0 in
    rw (c.in_ok-start.was, c.in-Script.is) (
      done.finished.left,
      inl (ran_over g.D.Disk.state c.in_ok-start.field-0 done.finished.left c.in-Ok.parts.bays.items
          c.in-Ok.parts.hosts.now (g.I.Read.remaining c.args.reader.now)
          (g.I.Read.remaining c.run_library.new.reader) (g.W.Write.contents c.args.writer.now)
          (g.W.Write.contents c.run_library.new.writer) done.outcome done.finished.counts done.finished.answered
          done.finished.moved c.close-in-Ok-run_library.result c.in-Ok.ensures.parts.0
          (c.in-Ok.ensures.hosts ∙ c.every_host-hosts.ensures) c.in-Ok-run_library.ensures.runs
          c.in-Ok-run_library.ensures.past c.in-Ok-run_library.ensures.ends
          (c.close-in-Ok-run_library.ensures.outcome ∙ c.outcome_of.ensures)),
      c.close-in-Ok-run_library.ensures.closed,
    )

pub returns-in-Err-run_library : goal.returns-in-Err-run_library
returns-in-Err-run_library g c =
    let back = c.in-Err-run_library.ensures.back in
    let same =
    back.0
    ∙ put_together c.in_ok-start.field-0 c.in-Ok.parts.slots c.in-Ok.parts.bays.items c.in-Ok.ensures.parts.1
    c.in-Ok.ensures.parts.0 in
    rw (c.in_ok-start.was, back.1, back.2) (
      c.in-Err-run_library.back,
      unused g.D.Disk.state c.args.work c.in_ok-start.field-0 c.in-Err-run_library.back
          (g.I.Read.remaining c.args.reader.now) (g.W.Write.contents c.args.writer.now)
          c.close-in-Err-run_library.result c.close-in-Err-run_library.ensures.outcome same,
      c.close-in-Err-run_library.ensures.closed,
    )

-- frames
pub returns-in-Ok-serve_library : goal.returns-in-Ok-serve_library
returns-in-Ok-serve_library g c =
    let done = c.in-Ok-serve_library.field-0 in
    rw (c.in_ok-start.was, c.in-Frames.is) (
      done.finished.left,
      inl (served_over g.D.Disk.state c.in_ok-start.field-0 done.finished.left c.in-Frames.labels
          c.in-Ok.parts.bays.items c.in-Ok.parts.hosts.now (g.I.Read.remaining c.args.reader.now)
          (g.I.Read.remaining c.serve_library.new.reader) (g.W.Write.contents c.args.writer.now)
          (g.W.Write.contents c.serve_library.new.writer) done.outcome done.finished.counts done.finished.answered
          done.finished.moved c.close-in-Ok-serve_library.result c.in-Ok.ensures.parts.0
          (c.in-Ok.ensures.hosts ∙ c.every_host-hosts.ensures) c.in-Ok-serve_library.ensures.serves
          c.in-Ok-serve_library.ensures.ends (c.close-in-Ok-serve_library.ensures.outcome ∙ c.served_outcome.ensures)),
      c.close-in-Ok-serve_library.ensures.closed,
    )

pub returns-in-Err-serve_library : goal.returns-in-Err-serve_library
returns-in-Err-serve_library g c =
    let back = c.in-Err-serve_library.ensures.back in
    let same =
    back.0
    ∙ put_together c.in_ok-start.field-0 c.in-Ok.parts.slots c.in-Ok.parts.bays.items c.in-Ok.ensures.parts.1
    c.in-Ok.ensures.parts.0 in
    rw (c.in_ok-start.was, back.1, back.2) (
      c.in-Err-serve_library.back,
      unused g.D.Disk.state c.args.work c.in_ok-start.field-0 c.in-Err-serve_library.back
          (g.I.Read.remaining c.args.reader.now) (g.W.Write.contents c.args.writer.now)
          c.close-in-Err-serve_library.result c.close-in-Err-serve_library.ensures.outcome same,
      c.close-in-Err-serve_library.ensures.closed,
    )
