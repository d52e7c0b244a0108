use Rattle.std.proofs.Common.{◌≡◌, ◌∙◌, ℕ, List, Option, ap, sym, subst, arith, vec_len}
use Rattle.std.specs.Prelude.{IfOk}
use Rattle.ledgers.specs.Ledgers.{Gathered, GatheringState}
use Rattle.bay_moves.specs.Elements.{BayState, HeldState, bay_at}
use Rattle.bay_moves.specs.Finish.{HasFailedAt, IsWrittenAt}
use Rattle.library.specs.Counts.{which_are_there}
use Rattle.library.specs.Ends.{Balances, counts_of, sum_of_counts, sum_of_seats}
use Rattle.library.specs.Keeps.{AreLeft, IsLeftAt}
use Rattle.library.proofs.EndLemmas.{by_number, one_failed}
use Rattle.library.proofs.OutcomeLemmas.{balances, reports_counts, reports_unwritten, reports_written}
use Rattle.library.proofs.libraries.Library.finish.Goals as goal

pub returns-clause-drives : goal.returns-clause-drives
returns-clause-drives g c =
    let bays_are =
    ap (λ (held : HeldState g.row.D.Denot). held.bays) c.from_parts.ensures ∙ c.into_places.ensures.row in
    ap (λ (row : List (Option (BayState g.row.D.Denot))). which_are_there row) bays_are
    ∙ c.end_drives-written.ensures.ended.there ∙ c.self.view_is

pub returns-clause-counts : goal.returns-clause-counts
returns-clause-counts g c =
    let bays_are =
    ap (λ (held : HeldState g.row.D.Denot). held.bays) c.from_parts.ensures ∙ c.into_places.ensures.row in
    let ended = c.end_drives-written.ensures.ended in
    let row = c.end_drives-written.new.row in
    let bays = c.take_seats-answered.ensures.bays.1 in
    let all : sum_of_counts (counts_of row) ≡ c.take_seats-answered.new.gathering.total =
    sym ended.changes ∙ ap (λ (x : Gathered). x.changes) (sym bays)
    ∙ c.compare.ensures.bays (ap (λ (x : Gathered). x.shares) bays ∙ ended.shares ∙ c.self.invariant.1) in
    let none : c.end_drives-written.new.gathering.hosts.changes ≡ 0 =
    ap (λ (x : Gathered). x.changes) c.end_drives-written.ensures.hosts.1
    ∙ ap (λ (x : GatheringState). x.hosts.changes) c.gather-gathering.ensures in
    let summed : c.take_seats-answered.new.gathering.hosts.changes ≡ sum_of_seats c.args.seats.items =
    omega (arith, c.take_seats-answered.ensures.changes, none) in
    subst (λ (s : ℕ). IfOk c.outcome-counts.result (λ counts. (counts ≡ counts_of c.from_parts.result.bays)
    × (sum_of_counts counts ≡ s))) summed
    (subst (λ (l : List (Option (BayState g.row.D.Denot))). IfOk c.outcome-counts.result (λ counts.
    (counts ≡ counts_of l) × (sum_of_counts counts ≡ c.take_seats-answered.new.gathering.hosts.changes)))
    (sym bays_are)
    (reports_counts row c.take_seats-answered.new.gathering.total c.take_seats-answered.new.gathering.hosts.changes all
    c.end_drives-written.result c.counts_in.result c.compare.result c.outcome-counts.result c.outcome-counts.ensures
    c.counts_in.ensures c.compare.ensures.ok))

pub returns-clause-unwritten : goal.returns-clause-unwritten
returns-clause-unwritten g c = λ reported.
    let bays_are =
    ap (λ (held : HeldState g.row.D.Denot). held.bays) c.from_parts.ensures ∙ c.into_places.ensures.row in
    let ended = c.end_drives-written.ensures.ended in
    let row = c.end_drives-written.new.row in
    subst (λ (l : List (Option (BayState g.row.D.Denot))). (number : ℕ) × HasFailedAt g.D.Disk.state (bay_at l number))
    (sym bays_are)
    (one_failed g.D.Disk.state row
    (reports_unwritten _ c.end_drives-written.result c.counts_in.result c.compare.result c.outcome-counts.result
    c.outcome-counts.ensures ended.err reported))

pub returns-clause-written : goal.returns-clause-written
returns-clause-written g c = λ differs number.
    let bays_are =
    ap (λ (held : HeldState g.row.D.Denot). held.bays) c.from_parts.ensures ∙ c.into_places.ensures.row in
    let ended = c.end_drives-written.ensures.ended in
    let row = c.end_drives-written.new.row in
    subst (λ (l : List (Option (BayState g.row.D.Denot))). IsWrittenAt g.D.Disk.state (bay_at l number))
    (sym bays_are)
    (by_number (λ (bay : Option (BayState g.row.D.Denot)). IsWrittenAt g.D.Disk.state bay) tt row
    (reports_written _ c.end_drives-written.result c.counts_in.result c.compare.result c.outcome-counts.result
    c.outcome-counts.ensures ended.ok differs) number)

pub returns-clause-sums : goal.returns-clause-sums
returns-clause-sums g c =
    let bays_are =
    ap (λ (held : HeldState g.row.D.Denot). held.bays) c.from_parts.ensures ∙ c.into_places.ensures.row in
    let ended = c.end_drives-written.ensures.ended in
    let row = c.end_drives-written.new.row in
    let bays = c.take_seats-answered.ensures.bays.1 in
    let counted : sum_of_counts (counts_of row) ≡ c.take_seats-answered.new.gathering.total =
    sym ended.changes ∙ ap (λ (x : Gathered). x.changes) (sym bays)
    ∙ c.compare.ensures.bays (ap (λ (x : Gathered). x.shares) bays ∙ ended.shares ∙ c.self.invariant.1) in
    let none : c.end_drives-written.new.gathering.hosts.changes ≡ 0 =
    ap (λ (x : Gathered). x.changes) c.end_drives-written.ensures.hosts.1
    ∙ ap (λ (x : GatheringState). x.hosts.changes) c.gather-gathering.ensures in
    let nobody : c.end_drives-written.new.gathering.hosts.shares ≡ 0 =
    ap (λ (x : Gathered). x.shares) c.end_drives-written.ensures.hosts.1
    ∙ ap (λ (x : GatheringState). x.hosts.shares) c.gather-gathering.ensures in
    let summed : c.take_seats-answered.new.gathering.hosts.changes ≡ sum_of_seats c.args.seats.items =
    omega (arith, c.take_seats-answered.ensures.changes, none) in
    let shared : c.take_seats-answered.new.gathering.hosts.shares ≡ vec_len c.args.seats =
    omega (arith, c.take_seats-answered.ensures.shares, nobody) in
    subst (λ (l : List (Option (BayState g.row.D.Denot))).
    Balances (vec_len c.args.seats) g.H.Parties.all (sum_of_counts (counts_of l)) (sum_of_seats c.args.seats.items)
    c.outcome-counts.result) (sym bays_are)
    (balances (vec_len c.args.seats) g.H.Parties.all (sum_of_counts (counts_of row)) (sum_of_seats c.args.seats.items)
    c.take_seats-answered.new.gathering.total c.take_seats-answered.new.gathering.hosts.changes
    c.end_drives-written.result
    c.counts_in.result c.compare.result c.outcome-counts.result c.outcome-counts.ensures counted summed
    c.compare.ensures.within.1 (λ every. c.compare.ensures.hosts (shared ∙ every)) c.compare.ensures.missing)

pub returns-clause-used : goal.returns-clause-used
returns-clause-used g c = c.take_seats-answered.ensures.used

pub returns-clause-left : goal.returns-clause-left
returns-clause-left g c =
    subst (λ (held : HeldState g.row.D.Denot). AreLeft g.D.Disk.state held.slots held.bays) (sym c.from_parts.ensures)
    (subst (λ (l : List (Option (BayState g.row.D.Denot))). AreLeft g.D.Disk.state c.into_slots-slots.result l)
    (sym c.into_places.ensures.row)
    (record {
      shelved = c.known_slots.ensures;
      drives =
          by_number (λ (bay : Option (BayState g.row.D.Denot)). IsLeftAt g.D.Disk.state bay) tt
          c.end_drives-written.new.row c.end_drives-written.ensures.ended.left;
    }))
