use Rattle.std.proofs.Common.{◌∙◌, ◌≡◌, ◌+◌, ◌≤◌, ◌<◌, length, arith, refl}
use Rattle.std.specs.Prelude.{◌^◌, slice_range}
use Rattle.std.proofs.lemmas.Bool.{eq-eqb, eqb-true}
use Rattle.gate_journal.specs.Reads.{reads_one, reads_then}
use Rattle.gate_journal.proofs.BehindLemmas.{hides, is_open, must_fit}
use Rattle.gate_journal.proofs.behind.hides_frames.Goals as goal

pub returns-then-len-lt-FRAME_HEAD-clause-answer : goal.returns-then-len-lt-FRAME_HEAD-clause-answer
returns-then-len-lt-FRAME_HEAD-clause-answer g c = (
  refl,
  λ h. (
    λ never. absurd (cc),
    λ w. absurd (omega (
      arith,
      must_fit (g.D.Disk.state c.args.disk.now).seen c.args.at (c.requires h) w,
      c.len.ensures.length h,
      c.saturating_sub-len.ensures,
      c.if-len-lt-FRAME_HEAD.true,
    )),
  ),
)

pub returns-in_err-read_at-2-clause-reads : goal.returns-in_err-read_at-2-clause-reads
returns-in_err-read_at-2-clause-reads g c =
    reads_then g.D.Disk.effect _ _ _ (reads_one g.D.Disk.effect _ _ _ _ (omega arith) (_, c.read_at.ensures.effect))
    (reads_one g.D.Disk.effect _ _ _ _ (omega arith) (_, c.read_at-2.ensures.effect))

pub returns-clause-reads : goal.returns-clause-reads
returns-clause-reads g c =
    reads_then g.D.Disk.effect _ _ _ (reads_one g.D.Disk.effect _ _ _ _ (omega arith) (_, c.read_at.ensures.effect))
    (reads_one g.D.Disk.effect _ _ _ _ (omega arith) (_, c.read_at-2.ensures.effect))

pub returns-clause-answer : goal.returns-clause-answer
returns-clause-answer g c =
    let d0 = g.D.Disk.state c.args.disk.now in
    let seen = d0.seen in
    let size = c.number_in-size.result in
    let none = c.in_ok-read_at-2.ensures.passes.none_failed ∙ c.in_ok-read_at.ensures.passes.none_failed in (
      none,
      λ h.
          let h1 = c.read_at.ensures.passes.stays_honest h in
          let inside = c.requires h in
          let sized : c.args.at + 5 + size < length seen =
          omega (arith, c.len.ensures.length h, c.saturating_sub-len.ensures, c.if-from-len.false, c.from.ensures) in
          let fits : size < 2 ^ 32 = omega (arith, c.if-size-gt-MAX_BODY.false) in
          let some : 1 ≤ size = omega (arith, c.if-size-eq0.false) in
          let short : size ≤ 8388608 = omega (arith, c.if-size-gt-MAX_BODY.false) in
          let far : c.from-2.result ≡ size = c.from-2.ensures in
          let next : c.read_at-2.new.buffer ≡ slice_range seen (c.args.at + 5 + size) (c.args.at + 5 + size + 1) =
          c.in_ok-read_at-2.ensures.bytes h1
          ∙ (λ k. slice_range ((c.read_at.ensures.same h).seen k) (c.args.at + 5 + far k) (c.args.at + 5 + far k + 1))
          in
          let hidden = hides seen c.args.at inside c.read_at.new.buffer size (omega (arith, sized)) fits
          (c.in_ok-read_at.ensures.bytes h) c.number_in-size.ensures sized c.read_at-2.new.buffer next some short in
          let shown = is_open seen c.args.at inside c.read_at.new.buffer size (omega (arith, sized)) fits
          (c.in_ok-read_at.ensures.bytes h) c.number_in-size.ensures sized c.read_at-2.new.buffer next some short in
          (λ is. hidden (eqb-true _ _ is), λ w. eq-eqb _ _ (shown w)),
    )
