use Rattle.std.proofs.Common.{inl, inr, refl}
use Rattle.std.proofs.lemmas.Result.{err_from_is_err_and}
use Rattle.gate_journal.specs.Reads.{opens_none, opens_reads, opens_sync, opens_then}
use Rattle.cartridge_sides.proofs.RunLemmas.{both_synced, counted_since, moments_then, still}
use Rattle.cartridge_sides.proofs.choosing.choose.Goals as goal

pub returns-in_err-make_sure-clause-second : goal.returns-in_err-make_sure-clause-second
returns-in_err-make_sure-clause-second g c = λ h.
    let old = g.D.Disk.state c.args.second.now in
    still old old.may_leave (g.met.D.Disk.is_disk c.args.second.now h) (λ image left. left)

pub returns-clause-answer : goal.returns-clause-answer
returns-clause-answer g c =
    counted_since (g.D.Disk.state c.args.first.now) (g.D.Disk.state c.make_sure.new.disk)
    (g.D.Disk.state c.choose_read.new.first) (g.D.Disk.state c.args.second.now) (g.D.Disk.state c.make_sure-2.new.disk)
    (g.D.Disk.state c.choose_read.new.second)
    c.in_ok-make_sure.ensures.passes.none_failed c.in_ok-make_sure-2.ensures.passes.none_failed
    c.make_sure.ensures.passes.stays_honest c.make_sure-2.ensures.passes.stays_honest
    c.in_ok-make_sure.ensures.sure c.in_ok-make_sure-2.ensures.sure
    c.choose_read.ensures.unwritten.0 c.choose_read.ensures.unwritten.1
    c.choose_read.result c.choose_read.ensures.answer

pub returns-clause-first : goal.returns-clause-first
returns-clause-first g c = λ h.
    let later = c.make_sure.ensures.passes.stays_honest h in
    moments_then (g.D.Disk.state c.args.first.now) (g.D.Disk.state c.make_sure.new.disk)
    (g.D.Disk.state c.choose_read.new.first) (g.met.D.Disk.is_disk c.make_sure.new.disk later)
    (c.make_sure.ensures.any_moment h) (c.choose_read.ensures.unwritten.0 later)

pub returns-clause-second : goal.returns-clause-second
returns-clause-second g c = λ h.
    let later = c.make_sure-2.ensures.passes.stays_honest h in
    moments_then (g.D.Disk.state c.args.second.now) (g.D.Disk.state c.make_sure-2.new.disk)
    (g.D.Disk.state c.choose_read.new.second) (g.met.D.Disk.is_disk c.make_sure-2.new.disk later)
    (c.make_sure-2.ensures.any_moment h) (c.choose_read.ensures.unwritten.1 later)

pub returns-in_err-make_sure-clause-reads : goal.returns-in_err-make_sure-clause-reads
returns-in_err-make_sure-clause-reads g c = (
  opens_sync g.D.Disk.effect _ _ (_, c.make_sure.ensures.synced),
  opens_none g.D.Disk.effect _,
)

pub returns-in_err-make_sure-2-clause-reads : goal.returns-in_err-make_sure-2-clause-reads
returns-in_err-make_sure-2-clause-reads g c = (
  opens_sync g.D.Disk.effect _ _ (_, c.make_sure.ensures.synced),
  opens_sync g.D.Disk.effect _ _ (_, c.make_sure-2.ensures.synced),
)

pub returns-clause-reads : goal.returns-clause-reads
returns-clause-reads g c = (
  opens_then g.D.Disk.effect _ _ _ (opens_sync g.D.Disk.effect _ _ (_, c.make_sure.ensures.synced))
      (opens_reads g.D.Disk.effect _ _ c.choose_read.ensures.reads.0),
  opens_then g.D.Disk.effect _ _ _ (opens_sync g.D.Disk.effect _ _ (_, c.make_sure-2.ensures.synced))
      (opens_reads g.D.Disk.effect _ _ c.choose_read.ensures.reads.1),
)

pub returns-in_err-make_sure-clause-begins : goal.returns-in_err-make_sure-clause-begins
returns-in_err-make_sure-clause-begins g c =
    let p = err_from_is_err_and c.from_residual.result c.from_residual.ensures.1 in
    rw (p.1, p.2) (inl (inl (c.in_err-make_sure.ensures.synced, refl)))

pub returns-in_err-make_sure-2-clause-begins : goal.returns-in_err-make_sure-2-clause-begins
returns-in_err-make_sure-2-clause-begins g c =
    let from = c.from_residual-in_err-make_sure-2 in
    let p = err_from_is_err_and from.result from.ensures.1 in
    rw (p.1, p.2) (inl (inr (c.in_ok-make_sure.ensures.synced, c.in_err-make_sure-2.ensures.synced)))

pub returns-clause-begins : goal.returns-clause-begins
returns-clause-begins g c =
    both_synced g.D.Disk.effect c.choose_read.result _ _ _ _
    (_, c.in_ok-make_sure.ensures.synced, opens_reads g.D.Disk.effect _ _ c.choose_read.ensures.reads.0)
    (_, c.in_ok-make_sure-2.ensures.synced, opens_reads g.D.Disk.effect _ _ c.choose_read.ensures.reads.1)
