use Rattle.std.proofs.Common.{sym, subst}
use Rattle.tape_disk.specs.TwoDisks.{AreHonest, MayLeave, TwoDisks, TwoLeave, seen_of_two}
use Rattle.gate_journal.specs.Reads.{opens_begun}
use Rattle.cartridge.specs.Answers.{IsNotOpened}
use Rattle.cartridge.specs.Contents.{GivesContents}
use Rattle.cartridge.specs.Disks.{EachStays, OnlyOfTwo, OpensEach, disks_by}
use Rattle.cartridge.specs.Inner.Causes.{cartridge_error}
use Rattle.cartridge.specs.Inner.Opening.{HasSide}
use Rattle.cartridge.specs.Notes.{noted_as}
use Rattle.cartridge.specs.declared.recovering.Recovered.{Recovered}
use Rattle.cartridge.proofs.DisksLemmas.{by_honest, honest_by, opens_by, quiet_by, stays_by}
use Rattle.cartridge.proofs.OpenedLemmas.{not_opened, opened_gives, opened_open, opened_own, opened_stores}
use Rattle.cartridge.proofs.opening.open_side.Goals as goal

pub invariant_of-result : goal.invariant_of-result
invariant_of-result g c =
    let state = g.D.Disk.state in
    let which = c.args.which in
    let this = c.apart-counts.result.0 in
    let spare = c.apart-counts.result.1 in
    let found = subst (λ (d : TwoDisks g.row.D.Denot). AreHonest state d → HasSide which (seen_of_two state d)
    × OnlyOfTwo state d d) (sym c.apart-counts.ensures) c.requires in
    let journal = c.in-Ok.journal in
    let recovered = c.in-Ok.recovered in
    let read = c.in-Ok.ensures.read in
    let there = c.known.ensures.base in
    let keeps = c.in-Ok.ensures.disk in (
      opened_open state which this spare g.met.D.Disk.is_disk found journal recovered.index recovered.noted.notes
          read.0 read.1 read.2 c.in-Ok.ensures.stands c.known.ensures.front.head there c.in-Ok.ensures.ok.1,
      opened_own state which this spare g.met.D.Disk.is_disk found journal recovered.index recovered.noted.notes
          read.0 read.1 read.2 c.in-Ok.ensures.stands c.known.ensures.front.head there,
      (λ later.
          let both = honest_by state which journal.disk spare later in
          opened_stores state which this spare g.met.D.Disk.is_disk found journal recovered.index
          recovered.noted.notes read.0 read.1 read.2 c.in-Ok.ensures.stands c.known.ensures.front.head there keeps
          later (by_honest state which this spare (keeps.was_honest both.0) both.1)),
    )

pub returns-in-Ok-clause-gives : goal.returns-in-Ok-clause-gives
returns-in-Ok-clause-gives g c =
    let state = g.D.Disk.state in
    let which = c.args.which in
    let this = c.apart-counts.result.0 in
    let spare = c.apart-counts.result.1 in
    let found = subst (λ (d : TwoDisks g.row.D.Denot). AreHonest state d → HasSide which (seen_of_two state d)
    × OnlyOfTwo state d d) (sym c.apart-counts.ensures) c.requires in
    let journal = c.in-Ok.journal in
    let recovered = c.in-Ok.recovered in
    let read = c.in-Ok.ensures.read in
    let there = c.known.ensures.base in
    subst (λ (d : TwoDisks g.row.D.Denot). AreHonest state d
    → GivesContents (noted_as which journal.front.head.copied recovered.noted.notes) (seen_of_two state d)
    × OnlyOfTwo state d (disks_by which journal.disk spare)) c.apart-counts.ensures
    (opened_gives state which this spare g.met.D.Disk.is_disk found journal recovered.index recovered.noted.notes
    read.0 read.1 read.2 c.in-Ok.ensures.stands c.known.ensures.front.head there)

pub returns-in-Ok-clause-any_moment : goal.returns-in-Ok-clause-any_moment
returns-in-Ok-clause-any_moment g c =
    let state = g.D.Disk.state in
    let which = c.args.which in
    let this = c.apart-counts.result.0 in
    let spare = c.apart-counts.result.1 in
    let journal = c.in-Ok.journal in
    subst (λ (d : TwoDisks g.row.D.Denot). AreHonest state d
    → TwoLeave state d (disks_by which journal.disk spare) (MayLeave state d)) c.apart-counts.ensures
    (λ h. quiet_by state which this spare journal.disk
    (c.in-Ok.ensures.any_moment (honest_by state which this spare h).0))

pub returns-in-Err-clause-refused : goal.returns-in-Err-clause-refused
returns-in-Err-clause-refused g c =
    let state = g.D.Disk.state in
    let which = c.args.which in
    let this = c.apart-counts.result.0 in
    let spare = c.apart-counts.result.1 in
    let refused = c.in-Err.refused in
    let found = subst (λ (d : TwoDisks g.row.D.Denot). AreHonest state d → HasSide which (seen_of_two state d)
    × OnlyOfTwo state d d) (sym c.apart-counts.ensures) c.requires in
    rw c.from.ensures (subst
    (λ (x : TwoDisks g.row.D.Denot × TwoDisks g.row.D.Denot). IsNotOpened state (cartridge_error refused.error) x.0 x.1)
    (λ i. (c.apart-counts.ensures i, sym c.in_order-first.ensures i))
    (not_opened state which this spare g.met.D.Disk.is_disk found refused.disk (λ (d : Recovered). d.index)
    (λ (d : Recovered). d.noted.notes) refused.error c.in-Err.ensures.refused))

pub returns-in-Err-clause-any_moment : goal.returns-in-Err-clause-any_moment
returns-in-Err-clause-any_moment g c =
    let state = g.D.Disk.state in
    let which = c.args.which in
    let this = c.apart-counts.result.0 in
    let spare = c.apart-counts.result.1 in
    let refused = c.in-Err.refused in
    subst
    (λ (x : TwoDisks g.row.D.Denot × TwoDisks g.row.D.Denot). AreHonest state x.0
    → TwoLeave state x.0 x.1 (MayLeave state x.0))
    (λ i. (c.apart-counts.ensures i, sym c.in_order-first.ensures i))
    (λ h. quiet_by state which this spare refused.disk
    (c.in-Err.ensures.any_moment (honest_by state which this spare h).0))

pub returns-in-Ok-clause-each : goal.returns-in-Ok-clause-each
returns-in-Ok-clause-each g c =
    let state = g.D.Disk.state in
    let which = c.args.which in
    let journal = c.in-Ok.journal in
    subst (λ (d : TwoDisks g.row.D.Denot). EachStays state d (disks_by which journal.disk c.apart-counts.result.1))
    c.apart-counts.ensures
    (stays_by state g.met.D.Disk.is_disk which c.apart-counts.result.0 c.apart-counts.result.1 journal.disk
    c.in-Ok.ensures.any_moment)

pub returns-in-Err-clause-each : goal.returns-in-Err-clause-each
returns-in-Err-clause-each g c =
    let state = g.D.Disk.state in
    subst (λ (x : TwoDisks g.row.D.Denot × TwoDisks g.row.D.Denot). EachStays state x.0 x.1)
    (λ i. (c.apart-counts.ensures i, sym c.in_order-first.ensures i))
    (stays_by state g.met.D.Disk.is_disk c.args.which c.apart-counts.result.0 c.apart-counts.result.1
    c.in-Err.refused.disk c.in-Err.ensures.any_moment)

pub returns-in-Ok-clause-reads : goal.returns-in-Ok-clause-reads
returns-in-Ok-clause-reads g c =
    let effect = g.D.Disk.effect in
    let which = c.args.which in
    let journal = c.in-Ok.journal in
    subst (λ (d : TwoDisks g.row.D.Denot). OpensEach effect d (disks_by which journal.disk c.apart-counts.result.1))
    c.apart-counts.ensures
    (opens_by effect which c.apart-counts.result.0 c.apart-counts.result.1 journal.disk
    (opens_begun effect _ _ c.in-Ok.ensures.begins))

pub returns-in-Err-clause-reads : goal.returns-in-Err-clause-reads
returns-in-Err-clause-reads g c =
    let effect = g.D.Disk.effect in
    subst (λ (x : TwoDisks g.row.D.Denot × TwoDisks g.row.D.Denot). OpensEach effect x.0 x.1)
    (λ i. (c.apart-counts.ensures i, sym c.in_order-first.ensures i))
    (opens_by effect c.args.which c.apart-counts.result.0 c.apart-counts.result.1 c.in-Err.refused.disk
    (opens_begun effect _ _ c.in-Err.ensures.begins))
