use Rattle.std.proofs.Common.{List, Option, ap, subst, sym, ◌∙◌}
use Rattle.tape_buffer.specs.Taking.{DisksState}
use Rattle.split_bay.specs.declared.items.Item.{Item}
use Rattle.split_bay.specs.Backs.{FollowsIn}
use Rattle.split_bay.specs.Rings.{ReceivingState, SendingState}
use Rattle.split_bay.specs.Spans.{KeepsLimits, Span, span_of}
use Rattle.split_bay.proofs.EmptyLemmas.{never_there}
use Rattle.split_bay.proofs.JoinedLemmas.{level_none}
use Rattle.split_bay.proofs.both.attach_none.Goals as goal

pub unreachable-requires : goal.unreachable-requires
unreachable-requires g c =
    let look = c.look_both.ensures in
    let same = ap (λ (s : SendingState). s.sent) look.sending in
    let within = subst (λ (l : List Item). KeepsLimits (span_of l)) (sym same) c.known.ensures in
    let level = sym (ap (λ (r : ReceivingState). r.received) look.same)
    ∙ level_none c.look_both.new.sending.sent c.look_both.new.receiving.received c.look_both.new.receiving.waiting
    look.fifo look.changes within (ap (λ (l : List Item). (span_of l).begin.left) same
    ∙ ap (λ (s : Span). s.begin.left) c.requires.none) ∙ same in
    let follows = subst (λ (o : Option (DisksState g.row.D.Denot)). FollowsIn g.D.Disk.state o
    (span_of c.args.receiving.now.received)) c.in-Some.is c.requires.follows in
    never_there (span_of c.args.receiving.now.received) (ap span_of level ∙ c.requires.none) follows.there

pub returns-clause-level : goal.returns-clause-level
returns-clause-level g c =
    let look = c.look_both.ensures in
    let same = ap (λ (s : SendingState). s.sent) look.sending in
    let within = subst (λ (l : List Item). KeepsLimits (span_of l)) (sym same) c.known.ensures in
    sym (ap (λ (r : ReceivingState). r.received) look.same)
    ∙ level_none c.look_both.new.sending.sent c.look_both.new.receiving.received c.look_both.new.receiving.waiting
    look.fifo look.changes within (ap (λ (l : List Item). (span_of l).begin.left) same
    ∙ ap (λ (s : Span). s.begin.left) c.requires.none) ∙ same
