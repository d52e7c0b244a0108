use Rattle.std.proofs.Common.{◌≡◌, ◌+◌, ◌∷◌, ◌++◌, ◌∙◌, ℕ, Bool, List, [], None, length, take, is_some, ap, sym, arith}
use Rattle.std.proofs.lemmas.List.{get_or_default, map-append}
use Rattle.std.proofs.Math.Seq.{take-length}
use Rattle.library.specs.Counts.{which_are_there}
use Rattle.library.proofs.RowLemmas.{more_there}
use Rattle.library.proofs.ring_rows.RingRow.of_drives.Goals as goal

pub unwrap-requires : goal.unwrap-requires
unwrap-requires g c =
    let inv = c.loop-bay.invariant in
    c.push.ensures.succeeds (omega (arith, inv.counted, inv.room, c.loop-bay-test.true, c.requires))

pub loop-bay-preserved : goal.loop-bay-preserved
loop-bay-preserved g c =
    let inv = c.loop-bay.invariant in
    let row = c.args.bays.now in
    let at = c.loop-bay.bay-index in
    let pushed = rw c.unwrap.ensures at c.push.ensures.items in
    let longer = rw c.unwrap.ensures at c.push.ensures.len in
    record {
      counted = longer ∙ ap (λ (n : ℕ). n + 1) inv.counted;
      room = omega (arith, c.push.ensures.capacity, inv.room);
      there =
          ap which_are_there pushed ∙ map-append is_some c.loop-bay.rings.items (c.in_ok-ring.ring ∷ [])
          ∙ ap (λ (said : List Bool). said ++ is_some c.in_ok-ring.ring ∷ []) inv.there
          ∙ ap (λ (one : Bool). which_are_there (take at row) ++ one ∷ [])
          (c.in_ok-ring.ensures
          ∙ ap is_some (c.bay-item.is ∙ get_or_default row at c.bay-item.result None c.loop-bay-test.true))
          ∙ sym (more_there row at c.loop-bay-test.true);
    }

pub returns : goal.returns
returns g c =
    let row = c.args.bays.now in
    let at : c.loop-bay.bay-index ≡ length row =
    omega (arith, c.loop-bay-test.false, c.loop-bay.auto.bay-index-end) in
    c.loop-bay.invariant.there ∙ ap (λ (n : ℕ). which_are_there (take n row)) at
    ∙ ap which_are_there (take-length row)
