use Rattle.std.proofs.Common.{List, ◌%◌, ap, arith, length, length-append, sym, ◌∙◌}
use Rattle.rtrb.specs.Ring.{known_items, received, sent}
use Rattle.split_bay.specs.declared.items.Item.{Item}
use Rattle.split_bay.specs.Rings.{ReceivingState, SendingState}
use Rattle.split_bay.specs.Spans.{spans_in}
use Rattle.split_bay.proofs.JoinedLemmas.{no_span_waits}
use Rattle.split_bay.proofs.joined.look_both.Goals as goal

pub returns-clause-changes : goal.returns-clause-changes
returns-clause-changes g c =
    let count = λ (items : List Item). length items in
    let first = c.slots_beside in
    let last = c.slots_beside-2 in
    let end = last.new.self in
    no_span_waits (sent c.sending.inside.producer) (sent last.new.producer) (received c.receiving.inside.consumer)
    (received end) (known_items end) (last.ensures.producer.1 ∙ first.ensures.looked.1)
    (last.ensures.looked.1 ∙ first.ensures.consumer.1) last.ensures.fifo
    (omega (
      arith,
      c.sending.invariant.1,
      first.ensures.looked.0.1,
      first.ensures.all_free,
      ap count last.ensures.producer.1,
      ap count last.ensures.looked.1,
      ap count last.ensures.fifo,
      length-append (received end) (known_items end),
    ))
    (ap (λ (s : SendingState). spans_in s.sent % 18446744073709551616) c.sending.view_is
    ∙ c.requires.spans
    ∙ ap (λ (r : ReceivingState). spans_in r.received % 18446744073709551616) (sym c.receiving.view_is))
