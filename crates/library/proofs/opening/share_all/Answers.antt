use Rattle.std.proofs.Common.{◌≡◌, ◌<◌, ◌+◌, ◌-◌, ◌∷◌, ◌++◌, ◌∙◌, ℕ, Bool, List, [], Option, None, is_some, length, take, get_or, refl, ap, sym, subst, arith}
use Rattle.std.proofs.lemmas.List.{get_or-set_other, map-append}
use Rattle.std.proofs.Math.Seq.{take-length}
use Rattle.bay_moves.specs.Elements.{BayState}
use Rattle.split_bay.specs.Rings.{Sender}
use Rattle.library.specs.Counts.{AcceptedNone, one_if_there, which_are_there}
use Rattle.library.proofs.RowLemmas.{alike_at, more_filled, more_there, room_for, same_filled, same_length}
use Rattle.library.proofs.opening.share_all.Goals as goal

pub share_one-bay-requires-clause-fresh : goal.share_one-bay-requires-clause-fresh
share_one-bay-requires-clause-fresh g c =
    let row = c.args.row.now in
    let at = c.loop-place.place in
    let within : at < length row = omega (arith, c.loop-place-test.true, c.loop-place.invariant.long) in
    let found : c.take.result ≡ get_or row at None =
    c.take.ensures.out ∙ c.loop-place.invariant.rest at None (omega arith) in
    subst (λ (bay : Option (BayState g.row.D.Denot)). AcceptedNone bay) (sym found) (c.requires.fresh at None within)

pub share_one-bay-requires-clause-share : goal.share_one-bay-requires-clause-share
share_one-bay-requires-clause-share g c =
    let inv = c.loop-place.invariant in
    let row = c.args.row.now in
    let at = c.loop-place.place in
    let within : at < length row = omega (arith, c.loop-place-test.true, inv.long) in
    let found : c.take.result ≡ get_or row at None = c.take.ensures.out ∙ inv.rest at None (omega arith) in
    omega (arith, room_for row at within, inv.shares, ap one_if_there found)

pub share_one-bay-requires-clause-ring : goal.share_one-bay-requires-clause-ring
share_one-bay-requires-clause-ring g c =
    let row = c.args.row.now in
    let rings = c.args.rings in
    let at = c.loop-place.place in
    let same : at + 1 - 1 ≡ at = omega arith in
    let within : at < length row = omega (arith, c.loop-place-test.true, c.loop-place.invariant.long) in
    let long : length rings ≡ length row = same_length rings row c.requires.rings.0 in
    let found : c.take.result ≡ get_or row at None =
    c.take.ensures.out ∙ c.loop-place.invariant.rest at None (omega arith) in
    let ring : c.take-in-loop-place.result ≡ get_or rings at None =
    c.take-in-loop-place.ensures.out ∙ c.loop-place.invariant.left at None (omega arith) in (
      ap is_some ring ∙ alike_at rings row at (omega (arith, within, long)) c.requires.rings.0 ∙ ap is_some (sym found),
      ap (λ (number : ℕ). g.B.Rings.ring number) c.number_at-number.ensures
          ∙ ap (λ (gives : ℕ → Option Sender). gives (at + 1)) c.requires.rings.1
          ∙ ap (λ (n : ℕ). get_or rings n None) same ∙ sym ring,
    )

pub loop-place-init : goal.loop-place-init
loop-place-init g c = record {
  counted = omega (arith, c.args.room.ok, ap length c.requires.room.0);
  room = c.requires.room.1;
  long = c.known.ensures;
  rest = λ k d more. refl;
  left = λ k d more. refl;
  shares = omega (arith, c.requires.shares);
  drives = ap which_are_there c.requires.room.0;
  hosts = refl;
}

pub unwrap-requires : goal.unwrap-requires
unwrap-requires g c =
    let inv = c.loop-place.invariant in
    c.push.ensures.succeeds (omega (arith, inv.counted, inv.room, c.loop-place-test.true))

pub loop-place-preserved : goal.loop-place-preserved
loop-place-preserved g c =
    let inv = c.loop-place.invariant in
    let row = c.args.row.now in
    let at = c.loop-place.place in
    let within : at < length row = omega (arith, c.loop-place-test.true, inv.long) in
    let found : c.take.result ≡ get_or row at None = c.take.ensures.out ∙ inv.rest at None (omega arith) in
    let pushed = rw c.unwrap.ensures at c.push.ensures.items in
    let longer = rw c.unwrap.ensures at c.push.ensures.len in
    record {
      counted = longer ∙ ap (λ (n : ℕ). n + 1) inv.counted;
      room = omega (arith, c.push.ensures.capacity, inv.room);
      long = inv.long;
      rest =
          λ k d more. ap (λ (r : List (Option (BayState g.row.D.Denot))). get_or r k d) c.take.ensures.left
          ∙ get_or-set_other c.loop-place.row at k None d (λ same. absurd (omega (arith, same, more)))
          ∙ inv.rest k d (omega (arith, more));
      left =
          λ k d more. ap (λ (r : List (Option Sender)). get_or r k d) c.take-in-loop-place.ensures.left
          ∙ get_or-set_other c.loop-place.rings at k None d (λ same. absurd (omega (arith, same, more)))
          ∙ inv.left k d (omega (arith, more));
      shares =
          omega (arith, c.share_one-bay.ensures.left, inv.shares, more_filled row at within, ap one_if_there found);
      drives =
          ap which_are_there pushed ∙ map-append is_some c.loop-place.shared.items (c.share_one-bay.result ∷ [])
          ∙ ap (λ (said : List Bool). said ++ is_some c.share_one-bay.result ∷ []) inv.drives
          ∙ ap (λ (one : Bool). which_are_there (take at row) ++ one ∷ [])
          (c.share_one-bay.ensures.there ∙ ap is_some found)
          ∙ sym (more_there row at within);
      hosts = c.share_one-bay.ensures.hosts ∙ inv.hosts;
    }

pub returns-clause-drives : goal.returns-clause-drives
returns-clause-drives g c =
    let inv = c.loop-place.invariant in
    let row = c.args.row.now in
    let at : c.loop-place.place ≡ length row =
    omega (arith, c.loop-place-test.false, c.loop-place.auto.place-end, inv.long) in
    inv.drives ∙ ap (λ (n : ℕ). which_are_there (take n row)) at ∙ ap which_are_there (take-length row)

pub returns-clause-all : goal.returns-clause-all
returns-clause-all g c =
    let inv = c.loop-place.invariant in
    let row = c.args.row.now in
    let at : c.loop-place.place ≡ length row =
    omega (arith, c.loop-place-test.false, c.loop-place.auto.place-end, inv.long) in
    let all = inv.drives ∙ ap (λ (n : ℕ). which_are_there (take n row)) at ∙ ap which_are_there (take-length row) in (
      same_length c.loop-place.shared.items row all ∙ inv.long,
      same_filled c.loop-place.shared.items row all,
    )
