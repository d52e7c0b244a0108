use Rattle.std.proofs.Common.{◌≡◌, length, ◌+◌, ◌++◌, ◌∷◌, [], ◌∙◌, ap, arith, refl, length-append}
use Rattle.gate_journal.specs.Followed.{followed}
use Rattle.gate_journal.specs.Side.{front_of}
use Rattle.gate_journal.specs.Inner.Writing.{tail_of}
use Rattle.gate_journal.proofs.Bodies.{moments, failed_on, failed_bodies, added_on, added_bodies, added_sure, still}
use Rattle.gate_journal.proofs.Extents.{one_more}
use Rattle.gate_journal.proofs.journal.Journal.append_frame.Goals as goal

pub invariant_of-self-in-Ok : goal.invariant_of-self-in-Ok
invariant_of-self-in-Ok g c =
    let i = c.self.inside in
    let d = g.D.Disk.state i.disk in
    let d' = g.D.Disk.state c.write_behind.new.disk in
    let body = (followed c.args.frame.now.body (g.P.BodyParts.parts c.args.parts.now)) in
    let sized : c.size_with-size.result ≡ length body = c.size_with-size.ensures in
    let extents_are = c.push_reserved.ensures.items
    ∙ (λ k. c.reserve.ensures.items k ++ (i.end + 5, sized k) ∷ []) in (
      c.self.invariant.0,
      omega (arith, sized),
      one_more i.end (length body) (i.end + (5 + c.from-in-Ok.result))
          i.extents.items c.push_reserved.new.self.items c.self.invariant.2 extents_are c.requires.0.0 c.requires.0.1
          (omega (arith, sized)),
      λ h'.
          let h = c.write_behind.ensures.passes.was_honest h' in
          added_on d (front_of i.header i.copied i.pair) i.extents.items i.end i.failed (c.self.invariant.3 h)
          c.if-self.false body c.requires.0 d' (tail_of body) refl
          c.push_reserved.new.self.items extents_are (c.in-Ok.ensures.opened h) (i.end + (5 + c.from-in-Ok.result))
          i.failed (omega (arith, sized)) c.if-self.false,
      omega arith,
      omega (
        arith,
        c.self.invariant.5,
        ap length extents_are,
        length-append i.extents.items
            ((i.end + 5, length body) ∷ []),
      ),
    )

pub invariant_of-self-in-Err : goal.invariant_of-self-in-Err
invariant_of-self-in-Err g c =
    let body = (followed c.args.frame.now.body (g.P.BodyParts.parts c.args.parts.now)) in
    let i = c.self.inside in
    let d = g.D.Disk.state i.disk in
    let d' = g.D.Disk.state c.write_behind.new.disk in (
      c.self.invariant.0,
      c.self.invariant.1,
      rw c.reserve.ensures.items c.self.invariant.2,
      λ h'.
          let h = c.write_behind.ensures.passes.was_honest h' in
          rw c.reserve.ensures.items
          (failed_on d (front_of i.header i.copied i.pair) i.extents.items i.end i.failed (c.self.invariant.3 h)
          c.if-self.false body c.requires.0 d' (tail_of body)
          refl
          (c.write_behind.ensures.any_moment h) (g.met.D.Disk.is_disk c.write_behind.new.disk h')),
      omega arith,
      rw c.reserve.ensures.items c.self.invariant.5,
    )

pub returns-in-Ok-clause-bodies : goal.returns-in-Ok-clause-bodies
returns-in-Ok-clause-bodies g c = rw (← c.self.view_is) (λ h.
    let i = c.self.inside in
    let d = g.D.Disk.state i.disk in
    let d' = g.D.Disk.state c.write_behind.new.disk in
    let body = (followed c.args.frame.now.body (g.P.BodyParts.parts c.args.parts.now)) in
    let sized : c.size_with-size.result ≡ length body = c.size_with-size.ensures in
    let extents_are = c.push_reserved.ensures.items
    ∙ (λ k. c.reserve.ensures.items k ++ (i.end + 5, sized k) ∷ []) in
    added_bodies d (front_of i.header i.copied i.pair) i.extents.items i.end i.failed (c.self.invariant.3 h)
    c.if-self.false body c.requires.0 d' (tail_of body) refl
    c.push_reserved.new.self.items extents_are (c.in-Ok.ensures.opened h))

pub returns-in-Ok-clause-sure : goal.returns-in-Ok-clause-sure
returns-in-Ok-clause-sure g c = rw (← c.self.view_is) (λ h.
    let i = c.self.inside in
    let d = g.D.Disk.state i.disk in
    let d' = g.D.Disk.state c.write_behind.new.disk in
    let body = (followed c.args.frame.now.body (g.P.BodyParts.parts c.args.parts.now)) in
    let sized : c.size_with-size.result ≡ length body = c.size_with-size.ensures in
    let extents_are = c.push_reserved.ensures.items
    ∙ (λ k. c.reserve.ensures.items k ++ (i.end + 5, sized k) ∷ []) in
    added_sure d (front_of i.header i.copied i.pair) i.extents.items i.end i.failed (c.self.invariant.3 h)
    c.if-self.false body c.requires.0 d' (tail_of body) refl
    c.push_reserved.new.self.items extents_are (c.in-Ok.ensures.opened h)
    (i.end + (5 + c.from-in-Ok.result)) (omega (arith, sized)))

pub returns-in-Ok-clause-any_moment : goal.returns-in-Ok-clause-any_moment
returns-in-Ok-clause-any_moment g c = rw (← c.self.view_is) (λ h fine.
    let body = (followed c.args.frame.now.body (g.P.BodyParts.parts c.args.parts.now)) in
    let i = c.self.inside in
    moments (g.D.Disk.state i.disk) (front_of i.header i.copied i.pair) i.extents.items i.end i.failed
    (c.self.invariant.3 h)
    fine body c.requires.0
    (g.D.Disk.state c.write_behind.new.disk) (tail_of body) refl
    (c.write_behind.ensures.any_moment h))

pub returns-in-Err-clause-bodies : goal.returns-in-Err-clause-bodies
returns-in-Err-clause-bodies g c = rw (← c.self.view_is) (λ h.
    let body = (followed c.args.frame.now.body (g.P.BodyParts.parts c.args.parts.now)) in
    let i = c.self.inside in
    let d = g.D.Disk.state i.disk in
    let d' = g.D.Disk.state c.write_behind.new.disk in
    let h' = c.write_behind.ensures.passes.stays_honest h in
    rw c.reserve.ensures.items
    (failed_bodies d (front_of i.header i.copied i.pair) i.extents.items i.end i.failed (c.self.invariant.3 h)
    c.if-self.false body c.requires.0 d' (tail_of body)
    refl
    (c.write_behind.ensures.any_moment h) (g.met.D.Disk.is_disk c.write_behind.new.disk h')))

pub returns-in-Err-clause-any_moment : goal.returns-in-Err-clause-any_moment
returns-in-Err-clause-any_moment g c = rw (← c.self.view_is) (λ h fine.
    let body = (followed c.args.frame.now.body (g.P.BodyParts.parts c.args.parts.now)) in
    let i = c.self.inside in
    moments (g.D.Disk.state i.disk) (front_of i.header i.copied i.pair) i.extents.items i.end i.failed
    (c.self.invariant.3 h)
    fine body c.requires.0
    (g.D.Disk.state c.write_behind.new.disk) (tail_of body) refl
    (c.write_behind.ensures.any_moment h))

pub returns-then-from-saturating_sub-clause-any_moment : goal.returns-then-from-saturating_sub-clause-any_moment
returns-then-from-saturating_sub-clause-any_moment g c = rw (← c.self.view_is) (λ h fine.
    let body = (followed c.args.frame.now.body (g.P.BodyParts.parts c.args.parts.now)) in
    let i = c.self.inside in
    still (g.D.Disk.state i.disk) (front_of i.header i.copied i.pair) i.extents.items i.end i.failed
    (c.self.invariant.3 h) fine body (g.met.D.Disk.is_disk i.disk h))

pub returns-in_err-reserve-clause-any_moment : goal.returns-in_err-reserve-clause-any_moment
returns-in_err-reserve-clause-any_moment g c = rw (← c.self.view_is) (λ h fine.
    let body = (followed c.args.frame.now.body (g.P.BodyParts.parts c.args.parts.now)) in
    let i = c.self.inside in
    still (g.D.Disk.state i.disk) (front_of i.header i.copied i.pair) i.extents.items i.end i.failed
    (c.self.invariant.3 h) fine body (g.met.D.Disk.is_disk i.disk h))
