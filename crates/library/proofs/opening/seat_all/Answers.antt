use Rattle.std.proofs.Common.{◌≡◌, ◌+◌, ◌∷◌, ◌++◌, ◌∙◌, ℕ, List, [], length, take, get_or, map, ap, sym, arith}
use Rattle.std.proofs.lemmas.List.{map-append, take_more}
use Rattle.std.proofs.Math.Seq.{take-length}
use Rattle.ledgers.specs.Ledgers.{TallyState}
use Rattle.library.specs.Seats.{SeatState}
use Rattle.library.specs.Counts.{new_seat}
use Rattle.library.proofs.SeatLemmas.{seat_of}
use Rattle.library.proofs.opening.seat_all.Goals as goal

pub loop-nexus-preserved : goal.loop-nexus-preserved
loop-nexus-preserved g c =
    let inv = c.loop-nexus.invariant in
    let hosts = c.args.hosts.now in
    let at = c.loop-nexus.nexus-index in
    let nexus = c.nexus-item.result in
    let pushed = rw c.unwrap.ensures at c.push.ensures.items in
    let longer = rw c.unwrap.ensures at c.push.ensures.len in
    let fewer = ap (λ (t : TallyState). t.hosts_left) c.add_host-share.ensures.left in
    let seat : c.of.result ≡ new_seat nexus =
    seat_of nexus _ _ c.add_host-share.ensures.share.0 c.add_host-share.ensures.share.1 c.of.result c.of.ensures in
    record {
      counted = longer ∙ ap (λ (n : ℕ). n + 1) inv.counted;
      room = omega (arith, c.push.ensures.capacity, inv.room);
      seats =
          pushed
          ∙ ap (λ (l : List SeatState). l ++ c.of.result ∷ []) inv.seats
          ∙ ap (λ (s : SeatState). map new_seat (take at hosts) ++ s ∷ [])
          (seat ∙ ap new_seat c.nexus-item.is)
          ∙ sym (ap (map new_seat) (take_more hosts at nexus c.loop-nexus-test.true)
          ∙ map-append new_seat (take at hosts) (get_or hosts at nexus ∷ []));
      left = omega (arith, fewer, inv.left, c.loop-nexus-test.true);
    }

pub returns : goal.returns
returns g c =
    let inv = c.loop-nexus.invariant in
    let hosts = c.args.hosts.now in
    let at : c.loop-nexus.nexus-index ≡ length hosts =
    omega (arith, c.loop-nexus-test.false, c.loop-nexus.auto.nexus-index-end) in
    inv.seats ∙ ap (λ (n : ℕ). map new_seat (take n hosts)) at ∙ ap (map new_seat) (take-length hosts)
