use Rattle.std.proofs.Common.{◌<◌, ◌∙◌, None, Some, length, get_or, ap, arith}
use Rattle.std.proofs.lemmas.List.{length-set}
use Rattle.library.specs.Seen.{seen_at}
use Rattle.library.proofs.SeenLemmas.{seen_on}
use Rattle.library.proofs.inventories.seen_in_slots.Goals.{in-Some, in-None}
use Rattle.library.proofs.inventories.seen_in_slots.Goals as goal

pub loop-place-preserved : goal.loop-place-preserved
loop-place-preserved g c =
    let inv = c.loop-place.invariant in
    let seen = c.loop-place.seen in
    let at = c.loop-place.place in
    let one = c.match-row-place.seen in
    let long = length-set seen at one ∙ inv.long in
    let row = c.inventory-row.result.now in
    let within : at < length seen = omega (arith, inv.long, c.loop-place-test.true) in
    let there : at < length row = omega (arith, c.inventory-row.ensures.all, c.loop-place-test.true) in
    let more = seen_on seen row at one in
    elim c.match-row-place.branch [
      | in-Some w ↦
          record { long = long; so = more (Some w.in-Some.field-0) _ within there w.in-Some.is w.seen-is inv.so }
      | in-None w ↦ record { long = long; so = more None _ within there w.in-None.is w.seen-is inv.so }
    ]

pub returns : goal.returns
returns g c =
    let row = c.inventory-row.ensures.row in
    λ place less. c.loop-place.invariant.so place (omega (arith, less, c.loop-place-test.false))
    ∙ ap (λ r. seen_at (get_or r place None)) row
