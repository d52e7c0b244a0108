use Rattle.std.proofs.Common.{inl, inr, ⊎_elim, ℕ, ◌-◌, ap, ◌∙◌, subst, arith}
use Rattle.std.proofs.lemmas.List.{take_all}
use Rattle.tape_disk.specs.Disk.{overwritten}
use Rattle.file_disk.specs.Inner.Transfers.{HasTransferred}
use Rattle.file_disk.specs.declared.transfers.TheConstants.{CALLS}
use Rattle.file_disk.proofs.RunLemmas.{as_honest_both}
use Rattle.file_disk.proofs.TransferLemmas.{calls_on, crash_more, on_err, smeared_more, written_more, written_none}
use Rattle.file_disk.proofs.transfers.write_all.Goals as goal

pub loop-left-init : goal.loop-left-init
loop-left-init g c = (
  record { stays_honest = λ honest. honest; was_honest = λ honest. honest },
  omega arith,
  omega arith,
  λ honest. written_none c.args.at c.args.bytes.now (g.F.RawFile.state c.args.file.now),
  λ honest place passed. passed,
  λ honest place passed after. omega (arith, after),
  λ honest place written. inl written,
)

pub returns-in_err-done-clause-smeared : goal.returns-in_err-done-clause-smeared
returns-in_err-done-clause-smeared g c = λ honest.
    let so = c.loop-left.invariant in
    on_err _ c.from_residual.result
    (smeared_more (CALLS - c.loop-left.left) c.args.at c.loop-left.done c.args.bytes.now
    (g.F.RawFile.state c.args.file.now) (g.F.RawFile.state c.loop-left.file) (g.F.RawFile.state c.write_on.new.file)
    (so.3 honest) (c.write_on.ensures.smeared (so.0.stays_honest honest)))

pub returns-in_err-done-clause-crash : goal.returns-in_err-done-clause-crash
returns-in_err-done-clause-crash g c = λ honest.
    let so = c.loop-left.invariant in
    crash_more (CALLS - c.loop-left.left) c.args.at c.loop-left.done c.args.bytes.now
    (g.F.RawFile.state c.args.file.now) (g.F.RawFile.state c.loop-left.file) (g.F.RawFile.state c.write_on.new.file)
    (so.3 honest) (c.write_on.ensures.crash (so.0.stays_honest honest))

pub returns-then-done-bytes-clause-written : goal.returns-then-done-bytes-clause-written
returns-then-done-bytes-clause-written g c = λ honest.
    let so = c.loop-left.invariant in
    let mid = so.0.stays_honest honest in
    let bytes = c.args.bytes.now in
    let more = written_more (CALLS - c.loop-left.left) c.args.at c.loop-left.done bytes
    (g.F.RawFile.state c.args.file.now) (g.F.RawFile.state c.loop-left.file) (g.F.RawFile.state c.write_on.new.file)
    c.in_ok-done.done (c.requires.inside honest) c.in_ok-done.ensures.bound.0 c.in_ok-done.ensures.bound.1
    (so.3 honest) (c.write_on.ensures.time mid) (c.in_ok-done.ensures.written mid)
    (c.write_on.ensures.smeared mid) (c.write_on.ensures.crash mid) (c.write_on.ensures.keeps mid) in
    more.seen
    ∙ ap (λ l. overwritten c.args.at l (g.F.RawFile.state c.args.file.now).seen)
    (take_all c.in_ok-done.done bytes (omega (arith, c.if-done-bytes.true)))

pub returns-then-done-bytes-clause-again : goal.returns-then-done-bytes-clause-again
returns-then-done-bytes-clause-again g c = λ honest place passed after.
    let so = c.loop-left.invariant in
    let mid = so.0.stays_honest honest in
    omega (
      arith,
      c.if-done-bytes.true,
      c.in_ok-done.ensures.again mid place passed
          (so.5 honest place (c.write_on.ensures.reaches mid place passed) after),
    )

pub returns-then-done-bytes-clause-crash : goal.returns-then-done-bytes-clause-crash
returns-then-done-bytes-clause-crash g c = λ honest.
    let so = c.loop-left.invariant in
    crash_more (CALLS - c.loop-left.left) c.args.at c.loop-left.done c.args.bytes.now
    (g.F.RawFile.state c.args.file.now) (g.F.RawFile.state c.loop-left.file) (g.F.RawFile.state c.write_on.new.file)
    (so.3 honest) (c.write_on.ensures.crash (so.0.stays_honest honest))

pub loop-left-preserved : goal.loop-left-preserved
loop-left-preserved g c =
    let so = c.loop-left.invariant in
    let bytes = c.args.bytes.now in
    let old = g.F.RawFile.state c.args.file.now in
    let between = g.F.RawFile.state c.loop-left.file in
    let new = g.F.RawFile.state c.write_on.new.file in (
      as_honest_both old between new so.0 c.write_on.ensures.honesty,
      omega (arith, so.1),
      c.in_ok-done.ensures.bound.1,
      λ honest.
          let mid = so.0.stays_honest honest in
          subst (λ (calls : ℕ). HasTransferred calls c.args.at c.in_ok-done.done bytes old new)
          (calls_on CALLS c.loop-left.left c.loop-left-test.true so.1)
          (written_more (CALLS - c.loop-left.left) c.args.at c.loop-left.done bytes old between new
          c.in_ok-done.done (c.requires.inside honest) c.in_ok-done.ensures.bound.0 c.in_ok-done.ensures.bound.1
          (so.3 honest) (c.write_on.ensures.time mid) (c.in_ok-done.ensures.written mid)
          (c.write_on.ensures.smeared mid) (c.write_on.ensures.crash mid) (c.write_on.ensures.keeps mid)),
      λ honest place passed.
          so.4 honest place (c.write_on.ensures.reaches (so.0.stays_honest honest) place passed),
      λ honest place passed after.
          let mid = so.0.stays_honest honest in
          c.in_ok-done.ensures.again mid place passed
          (so.5 honest place (c.write_on.ensures.reaches mid place passed) after),
      λ honest place written.
          ⊎_elim (so.6 honest place) inr (c.write_on.ensures.unsynced (so.0.stays_honest honest) place written),
    )
