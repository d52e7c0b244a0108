use Rattle.std.proofs.Common.{ℕ, List, length, ◌≤◌, arith, ap, subst, sym, ◌∙◌, length-append}
use Rattle.std.proofs.lemmas.Result.{err_from_is_err_and}
use Rattle.tape_disk.specs.Sequences.{keeps_of_passes}
use Rattle.gate_journal.specs.Side.{base_of, spell_front, StandsFor}
use Rattle.gate_journal.specs.State.{bodies_at}
use Rattle.gate_journal.specs.Inner.Asked.{BeginsAsked, IsNotAsked, IsDamagedAsked}
use Rattle.gate_journal.specs.Inner.Found.{front_read}
use Rattle.gate_journal.specs.Reads.{begins_then, opens_reads, opens_then, reads_then}
use Rattle.gate_journal.proofs.AskedLemmas.{begins_asked_by, damaged_asked}
use Rattle.gate_journal.proofs.Walks.{as_many, not_opened_since, damaged_there, stands_for, on_disk, seen_2, only_3}
use Rattle.gate_journal.proofs.reading.read_side.Goals as goal

pub read_frames-requires : goal.read_frames-requires
read_frames-requires g c = λ honest.
    let f = front_read c.in_ok-front.front in
    let found = c.in_ok-front.ensures.answer.0 in
    let honest1 = c.read_asked.ensures.disk.was_honest honest in
    let rest = found.3 honest1 in
    let seen = (c.read_asked.ensures.unwritten honest1).seen ∙ rest.1 in
    omega (arith, found.2, ap length seen, length-append (spell_front f) rest.0)

pub returns-in_err-frames-clause-answer : goal.returns-in_err-frames-clause-answer
returns-in_err-frames-clause-answer g c =
    let d0 = g.D.Disk.state c.args.disk.now in
    let d1 = g.D.Disk.state c.make_sure.new.disk in
    let d2 = g.D.Disk.state c.read_asked.new.disk in
    let d3 = g.D.Disk.state c.read_frames.new.disk in
    let start = c.in_ok-front.front.start in
    let f = front_read c.in_ok-front.front in
    let kept1 = keeps_of_passes d0 d1 c.make_sure.result c.make_sure.ensures.passes in
    let none1 = c.in_ok-make_sure.ensures.passes.none_failed in
    let asked = c.in_ok-front.ensures.answer.1 in
    let found = c.in_ok-front.ensures.answer.0 in
    let p = err_from_is_err_and c.from_residual-in_err-frames.result c.from_residual-in_err-frames.ensures.1 in
    rw (p.1, p.2)
    (not_opened_since d0 d2 d3 (found.0 ∙ none1) (IsNotAsked c.args.asked) (BeginsAsked c.args.asked)
    (IsDamagedAsked c.args.asked)
    c.in_err-frames.field-0.0 _ _ _ (λ bad. absurd bad)
    (λ at broken honest.
    let honest1 = kept1.stays_honest honest in
    let honest2 = c.read_asked.ensures.disk.stays_honest honest1 in
    let sure = (c.in_ok-make_sure.ensures.syncs honest).durable in
    let disk1 = g.met.D.Disk.is_disk c.make_sure.new.disk honest1 in
    let first = c.read_asked.ensures.unwritten honest1 in
    let second = c.read_frames.ensures.unwritten honest2 in
    let rest = found.3 honest1 in
    let b = broken honest2 in (
      subst (λ (l : List ℕ). IsDamagedAsked c.args.asked l at) (seen_2 d0 d1 d2 d3 sure disk1 first second)
          (damaged_asked c.args.asked f rest.0 d2.seen at found.1 asked (first.seen ∙ rest.1)
          (damaged_there d2.seen start b.0 b.1 at b.2 f found.1 rest.0 (first.seen ∙ rest.1)
          found.2 c.base_in-base.result c.base_in-base.ensures b.3)),
      only_3 d0 d1 d2 d3 sure disk1 first second,
    ))
    (λ _ honest.
    let honest1 = kept1.stays_honest honest in
    let honest2 = c.read_asked.ensures.disk.stays_honest honest1 in
    let sure = (c.in_ok-make_sure.ensures.syncs honest).durable in
    let disk1 = g.met.D.Disk.is_disk c.make_sure.new.disk honest1 in
    let rest = found.3 honest1 in
    let same = sure d1.seen disk1.reads in (
      subst (BeginsAsked c.args.asked) same (begins_asked_by c.args.asked f rest.0 d1.seen found.1 asked rest.1),
      only_3 d0 d1 d2 d3 sure disk1 (c.read_asked.ensures.unwritten honest1) (c.read_frames.ensures.unwritten honest2),
    ))
    c.in_err-frames.ensures.answer)

pub returns-clause-answer : goal.returns-clause-answer
returns-clause-answer g c =
    let d0 = g.D.Disk.state c.args.disk.now in
    let d1 = g.D.Disk.state c.make_sure.new.disk in
    let d2 = g.D.Disk.state c.read_asked.new.disk in
    let d3 = g.D.Disk.state c.read_frames.new.disk in
    let start = c.in_ok-front.front.start in
    let f = front_read c.in_ok-front.front in
    let kept1 = keeps_of_passes d0 d1 c.make_sure.result c.make_sure.ensures.passes in
    let none1 = c.in_ok-make_sure.ensures.passes.none_failed in
    let asked = c.in_ok-front.ensures.answer.1 in
    let found = c.in_ok-front.ensures.answer.0 in
    let frames = c.in_ok-frames.ensures.answer in
    let extents = c.in_ok-frames.frames.extents.items in
    let end = c.in_ok-frames.frames.end in (
      frames.0 ∙ found.0 ∙ none1,
      asked,
      found.1,
      frames.1,
      omega (arith, frames.3, c.base_in-base.ensures),
      frames.4,
      λ honest.
          let honest1 = kept1.stays_honest honest in
          let honest2 = c.read_asked.ensures.disk.stays_honest honest1 in
          let sure = (c.in_ok-make_sure.ensures.syncs honest).durable in
          let disk1 = g.met.D.Disk.is_disk c.make_sure.new.disk honest1 in
          let first = c.read_asked.ensures.unwritten honest1 in
          let second = c.read_frames.ensures.unwritten honest2 in
          let rest = found.3 honest1 in
          let walk = frames.5 honest2 in
          let same2 = seen_2 d0 d1 d2 d3 sure disk1 first second in
          let only = only_3 d0 d1 d2 d3 sure disk1 first second in
          let many = as_many d2.seen start walk.0.0 extents end walk.0.1 in
          let enough : base_of f.head ≤ length walk.0.0 = omega (arith, many, frames.3, c.base_in-base.ensures) in
          let stands = stands_for d2.seen start walk.0.0 extents end walk.0.1 f found.1 rest.0
          (first.seen ∙ rest.1) found.2 enough walk.1.0 walk.1.1 walk.1.2 walk.1.3 in
          let both = on_disk d2.seen start walk.0.0 extents end walk.0.1 f found.1 rest.0
          (first.seen ∙ rest.1) found.2 enough d3 second.seen (λ image left. only image left ∙ sym same2) stands in (
            both.0,
            subst (λ (l : List ℕ). StandsFor f (bodies_at d3.seen extents) l) same2 both.1,
            only,
          ),
    )

pub returns-in_err-front-clause-reads : goal.returns-in_err-front-clause-reads
returns-in_err-front-clause-reads g c =
    opens_then g.D.Disk.effect _ _ _ c.make_sure.ensures.reads
    (opens_reads g.D.Disk.effect _ _ c.read_asked.ensures.reads)

pub returns-in_err-frames-clause-reads : goal.returns-in_err-frames-clause-reads
returns-in_err-frames-clause-reads g c =
    opens_then g.D.Disk.effect _ _ _ c.make_sure.ensures.reads
    (opens_reads g.D.Disk.effect _ _
    (reads_then g.D.Disk.effect _ _ _ c.read_asked.ensures.reads c.read_frames.ensures.reads))

pub returns-clause-reads : goal.returns-clause-reads
returns-clause-reads g c =
    opens_then g.D.Disk.effect _ _ _ c.make_sure.ensures.reads
    (opens_reads g.D.Disk.effect _ _
    (reads_then g.D.Disk.effect _ _ _ c.read_asked.ensures.reads c.read_frames.ensures.reads))

pub returns-in_err-front-clause-begins : goal.returns-in_err-front-clause-begins
returns-in_err-front-clause-begins g c =
    begins_then g.D.Disk.effect _ _ _ c.make_sure.ensures.begins
    (opens_reads g.D.Disk.effect _ _ c.read_asked.ensures.reads)

pub returns-in_err-frames-clause-begins : goal.returns-in_err-frames-clause-begins
returns-in_err-frames-clause-begins g c =
    begins_then g.D.Disk.effect _ _ _ c.make_sure.ensures.begins
    (opens_reads g.D.Disk.effect _ _
    (reads_then g.D.Disk.effect _ _ _ c.read_asked.ensures.reads c.read_frames.ensures.reads))

pub returns-clause-begins : goal.returns-clause-begins
returns-clause-begins g c =
    begins_then g.D.Disk.effect _ _ _ c.make_sure.ensures.begins
    (opens_reads g.D.Disk.effect _ _
    (reads_then g.D.Disk.effect _ _ _ c.read_asked.ensures.reads c.read_frames.ensures.reads))
