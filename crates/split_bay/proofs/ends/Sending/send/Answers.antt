use Rattle.std.proofs.Common.{◌≡◌, ◌-◌, List, None, arith, subst, sym, ◌∙◌}
use Rattle.rtrb.specs.Ring.{sent}
use Rattle.volume_core.specs.Medium.{block_bytes}
use Rattle.volume_core.specs.Volume.{refusal_of}
use Rattle.split_bay.specs.declared.items.Item.{Item}
use Rattle.split_bay.specs.Rings.{IsCounted, SendingState}
use Rattle.split_bay.specs.Spans.{TakesMore, span_of, volume_seen}
use Rattle.split_bay.proofs.RingLemmas.{sends_still}
use Rattle.split_bay.proofs.SpanLemmas.{counted_more}
use Rattle.split_bay.proofs.ends.Sending.send.Goals as goal

pub push_reserved-requires : goal.push_reserved-requires
push_reserved-requires g c =
    let i = c.self.inside in
    let items = sent i.producer in
    let change = c.args.change in
    let counted = c.self.invariant.3 in
    let none = subst (λ (s : SendingState). refusal_of (volume_seen (span_of s.sent)) change ≡ None)
    (sym c.self.view_is) c.requires.applies in
    let takes = subst (λ (s : SendingState). TakesMore (span_of s.sent) (block_bytes change)) (sym c.self.view_is)
    c.requires.within in (
      omega (arith, c.self.invariant.2, counted.left_is, takes.few),
      (counted_more items change i.spans i.left i.bytes i.room c.frame_size-size.result counted
          none takes c.frame_size-size.ensures).within,
    )

pub invariant_of-self : goal.invariant_of-self
invariant_of-self g c =
    let i = c.self.inside in
    let items = sent i.producer in
    let change = c.args.change in
    let counted = c.self.invariant.3 in
    let told = c.push_reserved.ensures in
    let none = subst (λ (s : SendingState). refusal_of (volume_seen (span_of s.sent)) change ≡ None)
    (sym c.self.view_is) c.requires.applies in
    let takes = subst (λ (s : SendingState). TakesMore (span_of s.sent) (block_bytes change)) (sym c.self.view_is)
    c.requires.within in (
      sends_still (g.R.Rings.ring i.number) i.producer c.push_reserved.new.self c.self.invariant.0 told.ring.0,
      told.ring.1 ∙ c.self.invariant.1,
      omega (arith, c.self.invariant.2, told.sent.1),
      subst (λ (l : List Item). IsCounted l i.spans (i.left - 1) (i.bytes - (c.frame_size-size.result - 15))
          (i.room - c.frame_size-size.result)) (sym told.sent.0)
          (counted_more items change i.spans i.left i.bytes i.room c.frame_size-size.result counted none takes
          c.frame_size-size.ensures),
    )
