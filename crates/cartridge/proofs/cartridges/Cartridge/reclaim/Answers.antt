use Rattle.std.proofs.Common.{inl, inr, refl, sym, subst, ap, ◌∙◌}
use Rattle.tape_disk.specs.TwoDisks.{AreHonest, Images, MayLeave, TwoDisks, TwoLeave, two_in_sequence, seen_of_two, two_weakened}
use Rattle.cartridge.specs.Reclaiming.{GivesVolume, IsNotReclaimed, IsUntouched, LeavesVolume, disks_reclaimed}
use Rattle.cartridge.specs.State.{ClosedCartridge}
use Rattle.cartridge.proofs.UntouchedLemmas.{broken_untouched, copied_since, not_opened, stays_sure, sure_untouched}
use Rattle.cartridge.proofs.cartridges.Cartridge.reclaim.Goals as goal

pub copy_cartridge-requires-clause-sure : goal.copy_cartridge-requires-clause-sure
copy_cartridge-requires-clause-sure g c = λ honest images left.
    let state = g.D.Disk.state in
    let laws = g.met.D.Disk.is_disk in
    let now = c.in-Ok.cartridge.disks in
    let keeps = c.in-Ok.ensures.disks in
    let old : AreHonest state c.args.shelved.disks =
    (keeps.0.was_honest honest.0, keeps.1.was_honest honest.1) in
    let only = (c.in-Ok.ensures.gives old).1 in
    only images left
    ∙ sym (only (seen_of_two state now) ((laws now.first honest.0).reads, (laws now.second honest.1).reads))

pub returns-in-Ok-plan_copy-clause-copy : goal.returns-in-Ok-plan_copy-clause-copy
returns-in-Ok-plan_copy-clause-copy g c =
    let state = g.D.Disk.state in
    let old = c.args.shelved.disks in
    let mid = c.in-Ok.cartridge.disks in
    let keeps = c.in-Ok.ensures.disks in
    copied_since state old mid c.in-Ok.cartridge.contents c.copy_cartridge.result c.copy_cartridge.ensures.ok
    c.copy_cartridge.ensures.volume c.copy_cartridge.ensures.sides c.in-Ok-plan_copy.ensures.fits
    (λ honest. (keeps.0.stays_honest honest.0, keeps.1.stays_honest honest.1))
    (λ honest. (c.in-Ok.ensures.gives honest).0)
    (λ honest. (stays_sure state g.met.D.Disk.is_disk old mid honest keeps (c.in-Ok.ensures.any_moment honest)
    (c.in-Ok.ensures.gives honest).1).0.seen)

pub returns-in-Ok-plan_copy-clause-any_moment : goal.returns-in-Ok-plan_copy-clause-any_moment
returns-in-Ok-plan_copy-clause-any_moment g c = λ honest.
    let state = g.D.Disk.state in
    let old = c.args.shelved.disks in
    let mid = c.in-Ok.cartridge.disks in
    let contents = c.in-Ok.cartridge.contents in
    let new = disks_reclaimed c.copy_cartridge.result in
    let P = λ (images : Images). LeavesVolume (MayLeave state old) (seen_of_two state old) images in
    let keeps = c.in-Ok.ensures.disks in
    let still : AreHonest state mid = (keeps.0.stays_honest honest.0, keeps.1.stays_honest honest.1) in
    let found = (c.in-Ok.ensures.gives honest).0 in
    two_in_sequence state old mid new P
    (two_weakened state old mid (MayLeave state old) P (c.in-Ok.ensures.any_moment honest) (λ images left. inl left))
    (two_weakened state mid new (GivesVolume contents) P (c.copy_cartridge.ensures.any_moment still)
    (λ images gives. inr (contents, found, gives)))

pub returns-in-Err-plan_copy-clause-refused : goal.returns-in-Err-plan_copy-clause-refused
returns-in-Err-plan_copy-clause-refused g c =
    let state = g.D.Disk.state in
    let error = c.in-Err-plan_copy.error in
    subst (λ (s : ClosedCartridge g.row.D.Denot). IsNotReclaimed state c.args.shelved
    (record { error = error; shelved = s })) (sym c.shelve.ensures)
    (inr (inl (
      c.in-Ok.ensures.ok.2,
      refl,
      c.in-Err-plan_copy.ensures.refused,
      λ honest. (c.in-Ok.ensures.gives honest).0,
    )))

pub returns-in-Err-plan_copy-clause-any_moment : goal.returns-in-Err-plan_copy-clause-any_moment
returns-in-Err-plan_copy-clause-any_moment g c = λ honest.
    let state = g.D.Disk.state in
    let old = c.args.shelved.disks in
    let mid = c.in-Ok.cartridge.disks in
    let P = λ (images : Images). LeavesVolume (MayLeave state old) (seen_of_two state old) images in
    subst (λ (d : TwoDisks g.row.D.Denot). TwoLeave state old d P)
    (sym (ap (λ (s : ClosedCartridge g.row.D.Denot). s.disks) c.shelve.ensures))
    (two_weakened state old mid (MayLeave state old) P (c.in-Ok.ensures.any_moment honest) (λ images left. inl left))

pub returns-in-Err-clause-any_moment : goal.returns-in-Err-clause-any_moment
returns-in-Err-clause-any_moment g c = λ honest.
    let state = g.D.Disk.state in
    let old = c.args.shelved.disks in
    let new = c.in-Err.refused.shelved.disks in
    let P = λ (images : Images). LeavesVolume (MayLeave state old) (seen_of_two state old) images in
    two_weakened state old new (MayLeave state old) P (c.in-Err.ensures.any_moment honest) (λ images left. inl left)

pub returns-in-Ok-plan_copy-clause-untouched : goal.returns-in-Ok-plan_copy-clause-untouched
returns-in-Ok-plan_copy-clause-untouched g c =
    broken_untouched g.D.Disk.state c.args.shelved.disks c.in-Ok.cartridge.disks c.copy_cartridge.result
    c.copy_cartridge.ensures.err

pub returns-in-Err-plan_copy-clause-untouched : goal.returns-in-Err-plan_copy-clause-untouched
returns-in-Err-plan_copy-clause-untouched g c = λ honest.
    let state = g.D.Disk.state in
    let old = c.args.shelved.disks in
    let mid = c.in-Ok.cartridge.disks in
    let sure = stays_sure state g.met.D.Disk.is_disk old mid honest c.in-Ok.ensures.disks
    (c.in-Ok.ensures.any_moment honest) (c.in-Ok.ensures.gives honest).1 in
    subst (λ (d : TwoDisks g.row.D.Denot). IsUntouched state c.in-Err-plan_copy.error old d)
    (sym (ap (λ (s : ClosedCartridge g.row.D.Denot). s.disks) c.shelve.ensures))
    (sure_untouched state old mid c.in-Err-plan_copy.error sure)

pub returns-in-Err-clause-untouched : goal.returns-in-Err-clause-untouched
returns-in-Err-clause-untouched g c = λ honest.
    not_opened g.D.Disk.state g.met.D.Disk.is_disk c.args.shelved.disks c.in-Err.refused.shelved.disks honest
    c.in-Err.ensures.disks (c.in-Err.ensures.any_moment honest) c.in-Err.refused.error c.in-Err.ensures.refused

pub returns-in-Err-plan_copy-clause-unwritten : goal.returns-in-Err-plan_copy-clause-unwritten
returns-in-Err-plan_copy-clause-unwritten g c =
    let state = g.D.Disk.state in
    let old = c.args.shelved.disks in
    inr (subst (λ (s : ClosedCartridge g.row.D.Denot). AreHonest state old
    → TwoLeave state old s.disks (MayLeave state old)) (sym c.shelve.ensures) c.in-Ok.ensures.any_moment)
