use Rattle.std.proofs.Common.{◌≡◌, List, Option, true, ap, subst, sym, ◌∙◌}
use Rattle.std.specs.Prelude.{is_some}
use Rattle.tape_buffer.specs.State.{state_of}
use Rattle.tape_buffer.specs.Taking.{DisksState}
use Rattle.split_bay.specs.declared.items.Item.{Item}
use Rattle.split_bay.specs.Backs.{FollowsIn, FollowsSpan}
use Rattle.split_bay.specs.Both.{Attaches, AttachesTo}
use Rattle.split_bay.specs.Rings.{ReceivingState, SendingState}
use Rattle.split_bay.specs.Spans.{medium_seen, span_of}
use Rattle.split_bay.proofs.BothLemmas.{all_received, attaches, found_so}
use Rattle.split_bay.proofs.EmptyLemmas.{there_to_both}
use Rattle.split_bay.proofs.FrontLemmas.{away_held, seen_sent, there_held}
use Rattle.split_bay.proofs.LookLemmas.{not_both}
use Rattle.split_bay.proofs.both.attach_to.Goals.{then-is_awake, else-is_awake}
use Rattle.split_bay.proofs.both.attach_to.Goals as goal

pub unreachable-requires : goal.unreachable-requires
unreachable-requires g c =
    let look = c.look_both.ensures in
    let follows = subst (λ (o : Option (DisksState g.row.D.Denot)). FollowsIn g.D.Disk.state o
    (span_of c.args.receiving.now.received)) c.in_default.is c.requires.follows in
    there_to_both c.look_both.new.sending.sent c.look_both.new.receiving.received c.look_both.new.receiving.waiting
    look.fifo look.changes
    (subst (λ (s : SendingState). is_some (span_of s.sent).begin.seen ≡ true) (sym look.sending)
    (there_held c.args.medium.now.held (span_of c.args.sending.now.sent) c.requires.owes))
    (ap (λ (l : List Item). (span_of l).begin.seen) (ap (λ (r : ReceivingState). r.received) look.same) ∙ follows)

pub take_known-requires : goal.take_known-requires
take_known-requires g c =
    let disks = c.in-Some.disks in
    subst (λ (l : List Item). FollowsSpan g.D.Disk.state disks (span_of l))
    (sym (ap (λ (r : ReceivingState). r.received) c.look_both.ensures.same))
    (subst (λ (o : Option (DisksState g.row.D.Denot)). FollowsIn g.D.Disk.state o
    (span_of c.args.receiving.now.received)) c.in-Some.is c.requires.follows)

pub has_failed-requires-then-has_failed : goal.has_failed-requires-then-has_failed
has_failed-requires-then-has_failed g c =
    let state = g.D.Disk.state in
    let look = c.look_both.ensures in
    let medium = c.args.medium.now in
    let seen = subst (λ (s : SendingState). state_of state medium ≡ medium_seen (span_of s.sent)) (sym look.sending)
    (seen_sent state medium (span_of c.args.sending.now.sent) c.requires.owes c.requires.passed) in
    let found = found_so state c.look_both.new.sending c.args.receiving.now c.look_both.new.receiving
    c.take_known.new.receiving c.in-Some.disks c.take_known.new.medium
    (ap (λ (r : ReceivingState). r.received) look.same) look.fifo look.changes c.take_known.ensures.takes
    (state_of state medium) seen c.take_known.ensures.follows in
    elim c.if-is_awake.branch [
      | then-is_awake w ↦ sym found.awake ∙ sym c.is_awake.ensures ∙ w.if-is_awake.true
      | else-is_awake w ↦
          not_both c.if-is_awake.value (w.value-is ∙ w.if-is_awake.false) c.if-has_failed.true
    ]

pub attach-requires-clause-away : goal.attach-requires-clause-away
attach-requires-clause-away g c =
    away_held c.args.medium.now.held (span_of c.args.sending.now.sent) c.requires.owes

pub attach-requires-clause-found : goal.attach-requires-clause-found
attach-requires-clause-found g c =
    let state = g.D.Disk.state in
    let look = c.look_both.ensures in
    let medium = c.args.medium.now in
    let seen = subst (λ (s : SendingState). state_of state medium ≡ medium_seen (span_of s.sent)) (sym look.sending)
    (seen_sent state medium (span_of c.args.sending.now.sent) c.requires.owes c.requires.passed) in
    found_so state c.look_both.new.sending c.args.receiving.now c.look_both.new.receiving c.take_known.new.receiving
    c.in-Some.disks c.take_known.new.medium (ap (λ (r : ReceivingState). r.received) look.same) look.fifo
    look.changes c.take_known.ensures.takes (state_of state medium) seen c.take_known.ensures.follows

pub returns-clause-level : goal.returns-clause-level
returns-clause-level g c =
    let look = c.look_both.ensures in
    all_received g.D.Disk.state c.look_both.new.sending c.args.receiving.now c.look_both.new.receiving
    c.take_known.new.receiving c.in-Some.disks c.take_known.new.medium
    (ap (λ (r : ReceivingState). r.received) look.same) look.fifo look.changes c.take_known.ensures.takes
    ∙ ap (λ (s : SendingState). s.sent) look.sending

pub returns-clause-attaches : goal.returns-clause-attaches
returns-clause-attaches g c =
    let state = g.D.Disk.state in
    let look = c.look_both.ensures in
    let medium = c.args.medium.now in
    let disks = c.in-Some.disks in
    let received = c.args.receiving.now.received in
    let new = c.attach.new.self in
    let seen = subst (λ (s : SendingState). state_of state medium ≡ medium_seen (span_of s.sent)) (sym look.sending)
    (seen_sent state medium (span_of c.args.sending.now.sent) c.requires.owes c.requires.passed) in
    subst (λ (o : Option (DisksState g.row.D.Denot)).
    AttachesTo state c.args.sending.now.sent received o medium new) (sym c.in-Some.is)
    (subst (λ (s : SendingState). Attaches state s.sent received disks medium new) look.sending
    (attaches state c.look_both.new.sending c.args.receiving.now c.look_both.new.receiving c.take_known.new.receiving
    disks c.take_known.new.medium (ap (λ (r : ReceivingState). r.received) look.same) look.fifo look.changes
    c.take_known.ensures.takes medium new seen c.attach.ensures c.known.ensures.hand c.take_known.ensures.follows))
