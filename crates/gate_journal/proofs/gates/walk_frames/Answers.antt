use Rattle.std.proofs.Common.{◌≡◌, ℕ, List, ◌++◌, ◌∷◌, [], length-append, drop, ◌+◌, arith, refl, sym, ◌∙◌, ap}
use Rattle.std.proofs.lemmas.Result.{err_from_is_err_and}
use Rattle.tape_disk.specs.Sequences.{keeps_in_sequence}
use Rattle.gate_journal.specs.Reads.{reads_then}
use Rattle.gate_journal.proofs.GateLemmas.{gate_pushed}
use Rattle.gate_journal.proofs.Walks.{as_many, broken_there, nothing_there, not_read_since, too_few, unwritten_then, walked_more}
use Rattle.gate_journal.proofs.gates.walk_frames.Goals as goal

pub returns-then-start-len-clause-answer : goal.returns-then-start-len-clause-answer
returns-then-start-len-clause-answer g c = (
  refl,
  λ honest.
      nothing_there (g.D.Disk.state c.args.disk.now).seen c.args.start c.args.base
      (omega (arith, c.len-len.ensures.length honest, c.if-start-len.true)),
)

pub returns-in_err-size-clause-answer : goal.returns-in_err-size-clause-answer
returns-in_err-size-clause-answer g c =
    let d0 = g.D.Disk.state c.args.disk.now in
    let d1 = g.D.Disk.state c.loop-size.disk in
    let d2 = g.D.Disk.state c.read_mark.new.disk in
    let i = c.loop-size.invariant in
    let p = err_from_is_err_and c.from_residual.result c.from_residual.ensures.1 in
    rw (p.1, p.2)
    (not_read_since d0 d1 d2 i.none_failed c.in_err-size.field-0.0 _ _ _ _
    (λ place found honest.
    let so_far = i.honest honest in
    broken_there d0.seen d1.seen so_far.0.seen c.args.start c.args.base so_far.2.0 so_far.2.1 c.loop-size.at
    place so_far.2.2 found.0 (found.1 (i.keeps.stays_honest honest)))
    (λ never. absurd never)
    c.in_err-size.ensures.answer)

pub loop-size-preserved : goal.loop-size-preserved
loop-size-preserved g c =
    let d0 = g.D.Disk.state c.args.disk.now in
    let d1 = g.D.Disk.state c.loop-size.disk in
    let d2 = g.D.Disk.state c.read_mark.new.disk in
    let at = c.loop-size.at in
    let size = c.in-Some.size in
    let i = c.loop-size.invariant in
    let found = rw c.in-Some.is at c.in_ok-size.ensures.answer in
    let far : at + (5 + c.from.result) ≡ at + 5 + size = omega (arith, c.from.ensures) in
    record {
      inside = omega (arith, far, found.3);
      counted = omega (arith, far, i.counted);
      reads = reads_then g.D.Disk.effect _ _ _ i.reads c.read_mark.ensures.reads;
      keeps = keeps_in_sequence d0 d1 d2 i.keeps c.read_mark.ensures.disk;
      none_failed = found.0 ∙ i.none_failed;
      honest = λ honest.
          let so_far = i.honest honest in
          let honest1 = i.keeps.stays_honest honest in
          let frame = found.4 honest1 in
          let same = so_far.0.seen in
          let extents = so_far.2.1 in
          let more : List (ℕ × ℕ) = extents ++ (at + 5, size) ∷ [] in (
            unwritten_then d0 d1 d2 so_far.0 (c.read_mark.ensures.unwritten honest1),
            so_far.1,
            (
              _,
              more,
              walked_more d0.seen c.args.start so_far.2.0 extents at so_far.2.2 size frame.0
                  frame.1 more (at + (5 + c.from.result))
                  frame.2 found.1 found.2 (ap (λ (l : List ℕ). drop at l) (sym same) ∙ frame.3)
                  (frame.4 ∙ ap (λ (l : List ℕ). drop (at + 5 + size) l) same) refl far,
              sym (gate_pushed extents at size),
              omega (arith, so_far.2.4, length-append extents ((at + 5, size) ∷ [])),
            ),
          );
    }

pub returns-in_err-size-clause-reads : goal.returns-in_err-size-clause-reads
returns-in_err-size-clause-reads g c =
    reads_then g.D.Disk.effect _ _ _ c.loop-size.invariant.reads c.read_mark.ensures.reads

pub returns-clause-reads : goal.returns-clause-reads
returns-clause-reads g c =
    reads_then g.D.Disk.effect _ _ _ c.loop-size.invariant.reads c.read_mark.ensures.reads

pub returns-then-frames-from-clause-reads : goal.returns-then-frames-from-clause-reads
returns-then-frames-from-clause-reads g c =
    reads_then g.D.Disk.effect _ _ _ c.loop-size.invariant.reads c.read_mark.ensures.reads

pub returns-then-frames-from-clause-answer : goal.returns-then-frames-from-clause-answer
returns-then-frames-from-clause-answer g c =
    let d0 = g.D.Disk.state c.args.disk.now in
    let i = c.loop-size.invariant in
    let at = c.loop-size.at in
    let shut = rw c.in_default.is at c.in_ok-size.ensures.answer in (
      shut.0 ∙ i.none_failed,
      λ honest.
          let so_far = i.honest honest in
          let gate = shut.1 (i.keeps.stays_honest honest) in
          too_few d0.seen c.args.start so_far.2.0 so_far.2.1 at so_far.2.2 c.args.base
          (omega (arith, so_far.2.4, c.if-frames-from.true, c.from-2.ensures))
          (gate.0, gate.1, gate.2, ap (λ (l : List ℕ). drop at l) (sym so_far.0.seen) ∙ gate.3),
    )

pub returns-clause-answer : goal.returns-clause-answer
returns-clause-answer g c =
    let d0 = g.D.Disk.state c.args.disk.now in
    let i = c.loop-size.invariant in
    let at = c.loop-size.at in
    let shut = rw c.in_default.is at c.in_ok-size.ensures.answer in (
      shut.0 ∙ i.none_failed,
      λ honest.
          let so_far = i.honest honest in
          let gate = shut.1 (i.keeps.stays_honest honest) in
          let many = as_many d0.seen c.args.start so_far.2.0 so_far.2.1 at so_far.2.2 in (
            (
              so_far.2.0,
              so_far.2.1,
              so_far.2.2,
              so_far.2.3,
              omega (arith, so_far.2.4, many, c.if-frames-from.false, c.from-2.ensures),
            ),
            (gate.0, gate.1, gate.2, ap (λ (l : List ℕ). drop at l) (sym so_far.0.seen) ∙ gate.3),
          ),
    )
