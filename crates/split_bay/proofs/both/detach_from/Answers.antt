use Rattle.std.proofs.Common.{ap, subst, sym, ◌∙◌}
use Rattle.tape_buffer.specs.Detaching.{left_in, loose_of}
use Rattle.tape_buffer.specs.declared.budgets.Budget.{Budget}
use Rattle.tape_buffer.specs.Aways.{IsCut, loose_in}
use Rattle.tape_buffer.specs.Moves.{IsAway}
use Rattle.tape_buffer.specs.State.{BufferState}
use Rattle.split_bay.specs.Backs.{FollowsSpan}
use Rattle.split_bay.specs.Fronts.{OwesAway, OwesHeld}
use Rattle.split_bay.specs.Rings.{SendingState}
use Rattle.split_bay.specs.Spans.{Span, span_of}
use Rattle.tape_buffer.specs.Lending.{lend_facts}
use Rattle.split_bay.proofs.BothLemmas.{follows_lent, lent_begins, owes_lent}
use Rattle.split_bay.proofs.JoinedLemmas.{begun_so}
use Rattle.split_bay.proofs.both.detach_from.Goals as goal

pub returns-clause-owes : goal.returns-clause-owes
returns-clause-owes g c =
    let state = g.D.Disk.state in
    let old = c.args.medium.now in
    let lent = c.detach.result in
    let went = c.detach.ensures in
    let cut = c.left-left.result in
    let left = c.left-left.ensures.left ∙ ap (λ (b : BufferState g.row.D.Denot). left_in b.held) went.new_is in
    let is = subst (λ (b : Budget). IsCut lent.left b) (sym left) went.away_is.cut in
    let next = begun_so c.args.sending.now.sent c.begin_span.new.sending.sent c.of-noted.result
    (lent_begins state lent cut) (ap (λ (s : SendingState). s.sent) c.begin_span.ensures.sending)
    c.of-noted.ensures in
    subst (λ (b : BufferState g.row.D.Denot). OwesHeld b.held
    (span_of c.begin_span.new.sending.sent)) (sym went.new_is)
    (subst (λ (s : Span). OwesAway went.away s) (sym next)
    (owes_lent state old lent cut (lend_facts state old lent went.lends) went.state_is is went.away
    went.away_is.loose (sym left) went.away_is.noted))

pub returns-clause-follows : goal.returns-clause-follows
returns-clause-follows g c =
    let state = g.D.Disk.state in
    let old = c.args.medium.now in
    let lent = c.detach.result in
    let went = c.detach.ensures in
    let cut = c.left-left.result in
    let left = c.left-left.ensures.left ∙ ap (λ (b : BufferState g.row.D.Denot). left_in b.held) went.new_is in
    let is = subst (λ (b : Budget). IsCut lent.left b) (sym left) went.away_is.cut in
    let next = begun_so c.args.receiving.now.received c.begin_span.new.receiving.received c.of-noted.result
    (lent_begins state lent cut) c.begin_span.ensures.received c.of-noted.ensures in
    subst (λ (s : Span). FollowsSpan state lent s) (sym next)
    (follows_lent state old lent cut (lend_facts state old lent went.lends) went.state_is is)

pub left-left-requires : goal.left-left-requires
left-left-requires g c =
    subst (λ (b : BufferState g.row.D.Denot). IsAway b.held) (sym c.detach.ensures.new_is) tt

pub returns-clause-passed : goal.returns-clause-passed
returns-clause-passed g c =
    ap (λ (b : BufferState g.row.D.Denot). loose_of b) c.detach.ensures.new_is
    ∙ ap loose_in c.detach.ensures.away_is.loose
