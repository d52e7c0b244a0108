use Rattle.std.proofs.Common.{◌≡◌, ◌∙◌, length, vec_len, ap, arith}
use Rattle.ledgers.specs.Ledgers.{GatheringState}
use Rattle.library.specs.Ends.{sum_of_answers, sum_of_moves}
use Rattle.library.specs.Seats.{SeatState}
use Rattle.library.proofs.SumLemmas.{added_all, added_on, sum_less, sum_none}
use Rattle.library.proofs.finishing.take_seats.Goals as goal

pub loop-seat-preserved : goal.loop-seat-preserved
loop-seat-preserved g c =
    let inv = c.loop-seat.invariant in
    let all = c.loop-seat.seats.items in
    let items = c.pop.new.self.items in
    let seat = c.in-Some.seat in
    let is = c.in-Some.ensures.items in
    record {
      answers =
          added_on c.loop-seat.answered c.answered-answered.result (sum_of_answers all) (sum_of_answers items) _
          (sum_less (λ (s : SeatState). s.answered) all items seat c.answered-answered.result is
          c.answered-answered.ensures)
          inv.answers;
      moves =
          added_on c.loop-seat.moved c.moved-moved-in-Some.result (sum_of_moves all) (sum_of_moves items) _
          (sum_less (λ (s : SeatState). s.moved) all items seat c.moved-moved-in-Some.result is
          c.moved-moved-in-Some.ensures)
          inv.moves;
      shares =
          omega (
            arith,
            inv.shares,
            c.in-Some.ensures.cases,
            ap (λ (x : GatheringState). x.hosts.shares) c.take_host.ensures,
          );
      changes =
          omega (
            arith,
            inv.changes,
            ap (λ (x : GatheringState). x.hosts.changes) c.take_host.ensures,
            sum_less (λ (s : SeatState). s.amount) all items seat c.into_share.result is c.into_share.ensures,
          );
      total = ap (λ (x : GatheringState). x.total) c.take_host.ensures ∙ inv.total;
      bays = ap (λ (x : GatheringState). x.bays) c.take_host.ensures ∙ inv.bays;
    }

pub returns-clause-used : goal.returns-clause-used
returns-clause-used g c =
    let inv = c.loop-seat.invariant in
    let left = c.loop-seat.seats in
    let none : vec_len left ≡ 0 = (rw c.in_default.is at c.pop.ensures.cases).0 in
    let empty : length left.items ≡ 0 = omega (arith, left.ok, none) in
    record {
      answers =
          added_all c.loop-seat.answered (sum_of_answers left.items) _ (omega (arith, c.loop-seat.auto.answered-fits))
          (sum_none (λ (s : SeatState). s.answered) left.items empty) inv.answers;
      moves =
          added_all c.loop-seat.moved (sum_of_moves left.items) _ (omega (arith, c.loop-seat.auto.moved-fits))
          (sum_none (λ (s : SeatState). s.moved) left.items empty) inv.moves;
    }
