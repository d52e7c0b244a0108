use Rattle.std.proofs.Common.{List, ap, arith, length, length-append, ◌∙◌, [], ◌∷◌, ◌++◌}
use Rattle.rtrb.specs.Ring.{received, sent}
use Rattle.split_bay.specs.declared.items.Item.{Item}
use Rattle.split_bay.specs.declared.items.Item.TheVariants.{Begins}
use Rattle.split_bay.specs.Rings.{ReceivingState, SendingState}
use Rattle.split_bay.proofs.JoinedLemmas.{begun_within, counted_begun}
use Rattle.split_bay.proofs.RingLemmas.{sends_still}
use Rattle.split_bay.proofs.joined.begin_span.Goals as goal

pub push_reserved-requires : goal.push_reserved-requires
push_reserved-requires g c =
    let count = λ (items : List Item). length items in
    let first = c.slots_beside in (
      omega (
        arith,
        c.sending.invariant.1,
        first.ensures.looked.0.1,
        first.ensures.all_free,
        first.ensures.value,
        ap count first.ensures.looked.1,
        ap count first.ensures.consumer.1,
        ap (λ (s : SendingState). length s.sent) c.sending.view_is,
        ap (λ (r : ReceivingState). length r.received) c.receiving.view_is,
        ap count c.requires.level,
      ),
      begun_within (sent first.new.self) c.args.noted (omega (arith, c.requires.left, c.requires.limit)),
    )

pub invariant_of-sending : goal.invariant_of-sending
invariant_of-sending g c =
    let count = λ (items : List Item). length items in
    let i = c.sending.inside in
    let ring = g.R.Rings.ring i.number in
    let first = c.slots_beside in
    let push = c.push_reserved in
    let middle = c.slots_beside-2 in
    let pop = c.pop_known in
    let last = c.slots_beside-3 in
    let stands = sends_still ring middle.new.producer last.new.self
    (sends_still ring push.new.self middle.new.producer
    (sends_still ring first.new.self push.new.self
    (sends_still ring i.producer first.new.self c.sending.invariant.0 first.ensures.looked.0.0)
    push.ensures.ring.0) middle.ensures.producer.0.0) last.ensures.looked.0.0 in
    let places = last.ensures.looked.0.1 ∙ middle.ensures.producer.0.1 ∙ push.ensures.ring.1 ∙ first.ensures.looked.0.1
    ∙ c.sending.invariant.1 in
    let all = last.ensures.looked.1 ∙ middle.ensures.producer.1 ∙ push.ensures.sent.0
    ∙ ap (λ (l : List Item). l ++ Begins c.args.noted ∷ []) first.ensures.looked.1 in (
      stands,
      places,
      omega (
        arith,
        c.requires.limit,
        places,
        last.ensures.all_free,
        last.ensures.value,
        ap count all,
        length-append (sent i.producer) (Begins c.args.noted ∷ []),
        ap count last.ensures.consumer.1,
        ap count pop.ensures.received.0,
        length-append (received middle.new.self) (pop.result ∷ []),
        ap count middle.ensures.looked.1,
        ap count first.ensures.consumer.1,
        ap (λ (s : SendingState). length s.sent) c.sending.view_is,
        ap (λ (r : ReceivingState). length r.received) c.receiving.view_is,
        ap count c.requires.level,
      ),
      counted_begun (sent i.producer) (sent last.new.self) c.args.noted i.spans c.args.left c.args.bytes c.args.room all
          c.sending.invariant.3.spans_are c.requires.limit c.requires.left c.requires.bytes
          c.requires.room,
    )
