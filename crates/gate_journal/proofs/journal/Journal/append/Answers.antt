use Rattle.std.proofs.Common.{◌≡◌, ℕ, length, ◌+◌, List, ◌++◌, ◌∷◌, [], ◌∙◌, ap, arith, length-append}
use Rattle.gate_journal.specs.Side.{front_of}
use Rattle.gate_journal.specs.Inner.Writing.{tail_of}
use Rattle.gate_journal.proofs.Bodies.{moments, failed_on, failed_bodies, added_on, added_bodies, added_sure, still}
use Rattle.gate_journal.proofs.Extents.{one_more}
use Rattle.gate_journal.proofs.journal.Journal.append.Goals as goal

pub invariant_of-self-in-Ok : goal.invariant_of-self-in-Ok
invariant_of-self-in-Ok g c =
    let i = c.self.inside in
    let spelled : c.extend_reserved.new.self.body ≡ c.args.body.now =
    c.extend_reserved.ensures.body
    ∙ ap (λ (l : List ℕ). l ++ c.args.body.now) c.in_ok-make_room.ensures.ok.3 in
    let d = g.D.Disk.state i.disk in
    let d' = g.D.Disk.state c.write_behind.new.disk in
    let body = c.args.body.now in
    let extents_are = c.push_reserved.ensures.items
    ∙ ap (λ (l : List (ℕ × ℕ)). l ++ (i.end + 5, length body) ∷ []) c.make_room.ensures.same in (
      c.self.invariant.0,
      omega arith,
      one_more i.end (length body) (i.end + (5 + c.from-in-Ok.result))
          i.extents.items c.push_reserved.new.self.items c.self.invariant.2 extents_are c.requires.0 c.requires.1
          (omega arith),
      λ h'.
          let h = c.write_behind.ensures.passes.was_honest h' in
          added_on d (front_of i.header i.copied i.pair) i.extents.items i.end i.failed (c.self.invariant.3 h)
          c.if-self.false body c.requires d' (tail_of c.extend_reserved.new.self.body) (ap tail_of spelled)
          c.push_reserved.new.self.items extents_are (c.in-Ok.ensures.opened h) (i.end + (5 + c.from-in-Ok.result))
          i.failed (omega arith) c.if-self.false,
      omega arith,
      omega (
        arith,
        c.self.invariant.5,
        ap length extents_are,
        length-append i.extents.items
            ((i.end + 5, length body) ∷ []),
      ),
    )

pub invariant_of-self-in-Err : goal.invariant_of-self-in-Err
invariant_of-self-in-Err g c =
    let i = c.self.inside in
    let spelled : c.extend_reserved.new.self.body ≡ c.args.body.now =
    c.extend_reserved.ensures.body
    ∙ ap (λ (l : List ℕ). l ++ c.args.body.now) c.in_ok-make_room.ensures.ok.3 in
    let d = g.D.Disk.state i.disk in
    let d' = g.D.Disk.state c.write_behind.new.disk in (
      c.self.invariant.0,
      c.self.invariant.1,
      rw c.make_room.ensures.same c.self.invariant.2,
      λ h'.
          let h = c.write_behind.ensures.passes.was_honest h' in
          rw c.make_room.ensures.same
          (failed_on d (front_of i.header i.copied i.pair) i.extents.items i.end i.failed (c.self.invariant.3 h)
          c.if-self.false c.args.body.now c.requires d' (tail_of c.extend_reserved.new.self.body)
          (ap tail_of spelled)
          (c.write_behind.ensures.any_moment h) (g.met.D.Disk.is_disk c.write_behind.new.disk h')),
      omega arith,
      rw c.make_room.ensures.same c.self.invariant.5,
    )

pub returns-in-Ok-clause-bodies : goal.returns-in-Ok-clause-bodies
returns-in-Ok-clause-bodies g c = rw (← c.self.view_is) (λ h.
    let i = c.self.inside in
    let spelled : c.extend_reserved.new.self.body ≡ c.args.body.now =
    c.extend_reserved.ensures.body
    ∙ ap (λ (l : List ℕ). l ++ c.args.body.now) c.in_ok-make_room.ensures.ok.3 in
    let d = g.D.Disk.state i.disk in
    let d' = g.D.Disk.state c.write_behind.new.disk in
    let body = c.args.body.now in
    let extents_are = c.push_reserved.ensures.items
    ∙ ap (λ (l : List (ℕ × ℕ)). l ++ (i.end + 5, length body) ∷ []) c.make_room.ensures.same in
    added_bodies d (front_of i.header i.copied i.pair) i.extents.items i.end i.failed (c.self.invariant.3 h)
    c.if-self.false body c.requires d' (tail_of c.extend_reserved.new.self.body) (ap tail_of spelled)
    c.push_reserved.new.self.items extents_are (c.in-Ok.ensures.opened h))

pub returns-in-Ok-clause-sure : goal.returns-in-Ok-clause-sure
returns-in-Ok-clause-sure g c = rw (← c.self.view_is) (λ h.
    let i = c.self.inside in
    let spelled : c.extend_reserved.new.self.body ≡ c.args.body.now =
    c.extend_reserved.ensures.body
    ∙ ap (λ (l : List ℕ). l ++ c.args.body.now) c.in_ok-make_room.ensures.ok.3 in
    let d = g.D.Disk.state i.disk in
    let d' = g.D.Disk.state c.write_behind.new.disk in
    let body = c.args.body.now in
    let extents_are = c.push_reserved.ensures.items
    ∙ ap (λ (l : List (ℕ × ℕ)). l ++ (i.end + 5, length body) ∷ []) c.make_room.ensures.same in
    added_sure d (front_of i.header i.copied i.pair) i.extents.items i.end i.failed (c.self.invariant.3 h)
    c.if-self.false body c.requires d' (tail_of c.extend_reserved.new.self.body) (ap tail_of spelled)
    c.push_reserved.new.self.items extents_are (c.in-Ok.ensures.opened h)
    (i.end + (5 + c.from-in-Ok.result)) (omega arith))

pub returns-in-Ok-clause-any_moment : goal.returns-in-Ok-clause-any_moment
returns-in-Ok-clause-any_moment g c = rw (← c.self.view_is) (λ h fine.
    let i = c.self.inside in
    let spelled : c.extend_reserved.new.self.body ≡ c.args.body.now =
    c.extend_reserved.ensures.body
    ∙ ap (λ (l : List ℕ). l ++ c.args.body.now) c.in_ok-make_room.ensures.ok.3 in
    moments (g.D.Disk.state i.disk) (front_of i.header i.copied i.pair) i.extents.items i.end i.failed
    (c.self.invariant.3 h)
    fine c.args.body.now c.requires
    (g.D.Disk.state c.write_behind.new.disk) (tail_of c.extend_reserved.new.self.body) (ap tail_of spelled)
    (c.write_behind.ensures.any_moment h))

pub returns-in-Err-clause-bodies : goal.returns-in-Err-clause-bodies
returns-in-Err-clause-bodies g c = rw (← c.self.view_is) (λ h.
    let i = c.self.inside in
    let spelled : c.extend_reserved.new.self.body ≡ c.args.body.now =
    c.extend_reserved.ensures.body
    ∙ ap (λ (l : List ℕ). l ++ c.args.body.now) c.in_ok-make_room.ensures.ok.3 in
    let d = g.D.Disk.state i.disk in
    let d' = g.D.Disk.state c.write_behind.new.disk in
    let h' = c.write_behind.ensures.passes.stays_honest h in
    rw c.make_room.ensures.same
    (failed_bodies d (front_of i.header i.copied i.pair) i.extents.items i.end i.failed (c.self.invariant.3 h)
    c.if-self.false c.args.body.now c.requires d' (tail_of c.extend_reserved.new.self.body)
    (ap tail_of spelled)
    (c.write_behind.ensures.any_moment h) (g.met.D.Disk.is_disk c.write_behind.new.disk h')))

pub returns-in-Err-clause-any_moment : goal.returns-in-Err-clause-any_moment
returns-in-Err-clause-any_moment g c = rw (← c.self.view_is) (λ h fine.
    let i = c.self.inside in
    let spelled : c.extend_reserved.new.self.body ≡ c.args.body.now =
    c.extend_reserved.ensures.body
    ∙ ap (λ (l : List ℕ). l ++ c.args.body.now) c.in_ok-make_room.ensures.ok.3 in
    moments (g.D.Disk.state i.disk) (front_of i.header i.copied i.pair) i.extents.items i.end i.failed
    (c.self.invariant.3 h)
    fine c.args.body.now c.requires
    (g.D.Disk.state c.write_behind.new.disk) (tail_of c.extend_reserved.new.self.body) (ap tail_of spelled)
    (c.write_behind.ensures.any_moment h))

pub returns-then-from-saturating_sub-clause-any_moment : goal.returns-then-from-saturating_sub-clause-any_moment
returns-then-from-saturating_sub-clause-any_moment g c = rw (← c.self.view_is) (λ h fine.
    let i = c.self.inside in
    still (g.D.Disk.state i.disk) (front_of i.header i.copied i.pair) i.extents.items i.end i.failed
    (c.self.invariant.3 h) fine c.args.body.now (g.met.D.Disk.is_disk i.disk h))

pub returns-in_err-make_room-clause-any_moment : goal.returns-in_err-make_room-clause-any_moment
returns-in_err-make_room-clause-any_moment g c = rw (← c.self.view_is) (λ h fine.
    let i = c.self.inside in
    still (g.D.Disk.state i.disk) (front_of i.header i.copied i.pair) i.extents.items i.end i.failed
    (c.self.invariant.3 h) fine c.args.body.now (g.met.D.Disk.is_disk i.disk h))
