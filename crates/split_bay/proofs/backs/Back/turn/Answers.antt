use Rattle.std.proofs.Common.{Bool, Option, true, Some, ap, subst, sym, ◌∙◌}
use Rattle.tape_buffer.specs.State.{BufferState, state_of}
use Rattle.tape_buffer.specs.Taking.{DisksState}
use Rattle.split_bay.specs.Backs.{BackState, TurnsBack, disks_half, works_in}
use Rattle.split_bay.specs.Spans.{span_of}
use Rattle.split_bay.proofs.LookLemmas.{works_parts}
use Rattle.split_bay.proofs.TakenLemmas.{follows_turn, still, turns_back}
use Rattle.split_bay.proofs.backs.Back.turn.Goals as goal

pub invariant_of-self : goal.invariant_of-self
invariant_of-self g c =
    let medium = c.in-Some.disks in
    let taken = c.take_known.new.medium in
    let some = c.take_known.ensures.takes.takes in
    let works = ap (works_in g.D.Disk.state) (sym c.in-Some.is)
    ∙ ap (λ (b : BackState g.row.D.Denot). works_in g.D.Disk.state b.medium) c.self.view_is
    ∙ sym c.works.ensures ∙ c.if-not-works.false in
    let parts = works_parts (state_of g.D.Disk.state medium.buffer) works in
    follows_turn g.D.Disk.state (span_of c.take_known.new.receiving.received) taken c.flush_turn.new.self
    c.flush_turn.result c.take_known.ensures.follows
    (ap (λ (b : BufferState g.row.D.Denot). (state_of g.D.Disk.state b).awake) some.pending
    ∙ (still g.D.Disk.state medium.buffer some.found).0 ∙ parts.0)
    c.flush_turn.ensures.answer c.flush_turn.ensures.stores c.flush_turn.ensures.left

pub returns : goal.returns
returns g c =
    let i = c.self.inside in
    let medium = c.in-Some.disks in
    let new = c.take_known.new.receiving in
    let done = disks_half new (Some c.flush_turn.new.self) in
    let same = ap (λ (o : Option (DisksState g.row.D.Denot)). disks_half i.receiving o) (sym c.in-Some.is) in
    let works = ap (works_in g.D.Disk.state) (sym c.in-Some.is)
    ∙ ap (λ (b : BackState g.row.D.Denot). works_in g.D.Disk.state b.medium) c.self.view_is
    ∙ sym c.works.ensures ∙ c.if-not-works.false in
    let parts = works_parts (state_of g.D.Disk.state medium.buffer) works in
    let told = c.flush_turn.ensures in
    subst (λ (b : Bool). TurnsBack g.D.Disk.state b c.args.self.now c.flush_turn.result done)
    (sym (sym c.works.ensures ∙ c.if-not-works.false))
    (subst (λ (b : BackState g.row.D.Denot). TurnsBack g.D.Disk.state true b c.flush_turn.result done)
    (same ∙ c.self.view_is)
    (turns_back g.D.Disk.state i.receiving c.look.new.self new medium c.take_known.new.medium c.flush_turn.new.self
    c.flush_turn.result c.look.ensures.same c.look.ensures.more c.take_known.ensures.takes parts.1 told.answer
    told.frame told.stores told.advances told.behind))
