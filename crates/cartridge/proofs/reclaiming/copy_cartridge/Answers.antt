use Rattle.std.proofs.Common.{◌≡◌, ◌<◌, ◌^◌, ◌⊎◌, inl, inr, ⊎_elim, length, sym, subst, ap, ◌∙◌, arith}
use Rattle.std.specs.Prelude.{OnOk, Result, Some}
use Rattle.vtl_base.specs.declared.faults.DevFault.{DevFault}
use Rattle.gate_journal.specs.declared.heads.Copied.{Copied}
use Rattle.change_records.specs.Records.{spell_all}
use Rattle.std.proofs.lemmas.List.{length-map}
use Rattle.tape_disk.specs.TwoDisks.{AreHonest, EachOfTwo, MayLeave, TwoDisks, TwoLeave, seen_of_two, two_weakened}
use Rattle.volume_core.specs.Volume.{IsVolume}
use Rattle.object_index.specs.Indexes.{indexes_shape}
use Rattle.volume_reclaim.specs.Reclaiming.{GivesCopy, MayReclaim}
use Rattle.side_reclaim.specs.Ready.{GivesSide}
use Rattle.cartridge.specs.Contents.{Contents, GivesContents, IsContents, bodies_of, volume_made}
use Rattle.cartridge.specs.Disks.{disks_by}
use Rattle.cartridge.specs.Lying.{LiesOnSide}
use Rattle.cartridge.specs.Notes.{noted_as}
use Rattle.cartridge.specs.Reclaiming.{GivesVolume, KeepsOldSide, copy_frames, reclaimed_from}
use Rattle.cartridge.specs.State.{ClosedCartridge, OpenCartridge}
use Rattle.cartridge.proofs.CopiedLemmas.{asked_before, copy_gives, may_hold, may_reclaim, reclaimed_volume, volume_of_shape}
use Rattle.cartridge.proofs.reclaiming.copy_cartridge.Goals as goal

pub returns-clause-any_moment : goal.returns-clause-any_moment
returns-clause-any_moment g c = λ honest.
    let state = g.D.Disk.state in
    let laws = g.met.D.Disk.is_disk in
    let i = c.cartridge.inside in
    let view = c.cartridge.view_is in
    let notes = i.noted.notes in
    let side = i.journal in
    let contents = noted_as i.which side.front.head.copied notes in
    let disks = disks_by i.which side.disk i.spare in
    let header = c.args.plan.header in
    let copied = c.args.plan.copied in
    let asked = asked_before state _ _ header copied view c.requires.fine c.requires.sure c.requires.heading
    c.requires.epoch c.requires.base in
    let epoch_fits : copied.epoch < 2 ^ 64 = omega arith in
    let base_fits : copied.base < 2 ^ 32 = omega arith in
    let mid : TwoDisks g.row.D.Denot =
    record { first = c.in_order-first.result.0; second = c.in_order-first.result.1 } in
    let mid_is : mid ≡ disks = c.in_order-first.ensures ∙ ap (λ d. disks_by i.which d i.spare) c.close.ensures in
    let ended = c.reclaim_volume-ended in
    let new : TwoDisks g.row.D.Denot = record { first = ended.result.first; second = ended.result.second } in
    let volume = volume_made contents in
    let held = may_hold state laws i.which side i.spare i.index notes header copied c.cartridge.invariant.0
    c.cartridge.invariant.1 c.parts.ensures.limits epoch_fits base_fits asked.epoch asked.base in
    let here : AreHonest state disks =
    subst (λ (v : OpenCartridge g.row.D.Denot). AreHonest state v.disks) (sym view) honest in
    let may = subst (λ (d : TwoDisks g.row.D.Denot). MayReclaim state d i.which header copied i.index contents.head
    (bodies_of notes.frames) volume) (sym mid_is)
    (may_reclaim state laws i.which side i.spare i.index notes header copied c.cartridge.invariant.0
    c.cartridge.invariant.2 c.see_bodies.ensures asked.fine asked.only asked.heading asked.epoch asked.base here) in
    let kept = reclaimed_volume contents c.cartridge.invariant.1
    (volume_of_shape (volume_made contents)
    (subst IsVolume (indexes_shape (LiesOnSide notes side.extents) (volume_made contents) i.index
    c.cartridge.invariant.0.lies) c.parts.ensures.limits)) in
    let leaves = ended.ensures.any_moment (subst (AreHonest state) (sym mid_is) here) contents.head
    (bodies_of notes.frames) volume may in
    let gives : TwoLeave state mid new (GivesVolume contents) =
    two_weakened state mid new
    (λ images. GivesSide i.which contents.head (bodies_of notes.frames) images ⊎ GivesCopy i.which contents.head
    volume images)
    (GivesVolume contents) leaves
    (λ images. ⊎_elim (λ stands. inl (c.cartridge.invariant.1, stands))
    (λ copy. inr (copy_gives contents held images copy, kept))) in
    let from_old : TwoLeave state disks new (GivesVolume contents) =
    subst (λ (d : TwoDisks g.row.D.Denot). TwoLeave state d new (GivesVolume contents)) mid_is gives in
    let seen : TwoLeave state c.args.cartridge.disks new (GivesVolume c.args.cartridge.contents) =
    subst (λ (v : OpenCartridge g.row.D.Denot). TwoLeave state v.disks new (GivesVolume v.contents)) view from_old in
    subst (λ (d : TwoDisks g.row.D.Denot). TwoLeave state c.args.cartridge.disks d
    (GivesVolume c.args.cartridge.contents)) (sym c.of.ensures.disks) seen

pub returns-in-Ok-clause-any_moment : goal.returns-in-Ok-clause-any_moment
returns-in-Ok-clause-any_moment g c = λ honest.
    let state = g.D.Disk.state in
    let laws = g.met.D.Disk.is_disk in
    let i = c.cartridge.inside in
    let view = c.cartridge.view_is in
    let notes = i.noted.notes in
    let side = i.journal in
    let contents = noted_as i.which side.front.head.copied notes in
    let disks = disks_by i.which side.disk i.spare in
    let header = c.args.plan.header in
    let copied = c.args.plan.copied in
    let asked = asked_before state _ _ header copied view c.requires.fine c.requires.sure c.requires.heading
    c.requires.epoch c.requires.base in
    let epoch_fits : copied.epoch < 2 ^ 64 = omega arith in
    let base_fits : copied.base < 2 ^ 32 = omega arith in
    let mid : TwoDisks g.row.D.Denot =
    record { first = c.in_order-first.result.0; second = c.in_order-first.result.1 } in
    let mid_is : mid ≡ disks = c.in_order-first.ensures ∙ ap (λ d. disks_by i.which d i.spare) c.close.ensures in
    let ended = c.reclaim_volume-ended in
    let new : TwoDisks g.row.D.Denot = record { first = ended.result.first; second = ended.result.second } in
    let volume = volume_made contents in
    let held = may_hold state laws i.which side i.spare i.index notes header copied c.cartridge.invariant.0
    c.cartridge.invariant.1 c.parts.ensures.limits epoch_fits base_fits asked.epoch asked.base in
    let here : AreHonest state disks =
    subst (λ (v : OpenCartridge g.row.D.Denot). AreHonest state v.disks) (sym view) honest in
    let may = subst (λ (d : TwoDisks g.row.D.Denot). MayReclaim state d i.which header copied i.index contents.head
    (bodies_of notes.frames) volume) (sym mid_is)
    (may_reclaim state laws i.which side i.spare i.index notes header copied c.cartridge.invariant.0
    c.cartridge.invariant.2 c.see_bodies.ensures asked.fine asked.only asked.heading asked.epoch asked.base here) in
    let kept = reclaimed_volume contents c.cartridge.invariant.1
    (volume_of_shape (volume_made contents)
    (subst IsVolume (indexes_shape (LiesOnSide notes side.extents) (volume_made contents) i.index
    c.cartridge.invariant.0.lies) c.parts.ensures.limits)) in
    let leaves = ended.ensures.any_moment (subst (AreHonest state) (sym mid_is) here) contents.head
    (bodies_of notes.frames) volume may in
    let gives : TwoLeave state mid new (GivesVolume contents) =
    two_weakened state mid new
    (λ images. GivesSide i.which contents.head (bodies_of notes.frames) images ⊎ GivesCopy i.which contents.head
    volume images)
    (GivesVolume contents) leaves
    (λ images. ⊎_elim (λ stands. inl (c.cartridge.invariant.1, stands))
    (λ copy. inr (copy_gives contents held images copy, kept))) in
    let from_old : TwoLeave state disks new (GivesVolume contents) =
    subst (λ (d : TwoDisks g.row.D.Denot). TwoLeave state d new (GivesVolume contents)) mid_is gives in
    let seen : TwoLeave state c.args.cartridge.disks new (GivesVolume c.args.cartridge.contents) =
    subst (λ (v : OpenCartridge g.row.D.Denot). TwoLeave state v.disks new (GivesVolume v.contents)) view from_old in
    subst (λ (d : TwoDisks g.row.D.Denot). TwoLeave state c.args.cartridge.disks d
    (GivesVolume c.args.cartridge.contents))
    (sym (ap (λ (r : ClosedCartridge g.row.D.Denot). r.disks) c.with.ensures ∙ c.apart-counts.ensures)) seen

pub returns-in-Ok-clause-sides : goal.returns-in-Ok-clause-sides
returns-in-Ok-clause-sides g c = λ honest.
    let state = g.D.Disk.state in
    let laws = g.met.D.Disk.is_disk in
    let i = c.cartridge.inside in
    let view = c.cartridge.view_is in
    let notes = i.noted.notes in
    let side = i.journal in
    let contents = noted_as i.which side.front.head.copied notes in
    let disks = disks_by i.which side.disk i.spare in
    let header = c.args.plan.header in
    let copied = c.args.plan.copied in
    let asked = asked_before state _ _ header copied view c.requires.fine c.requires.sure c.requires.heading
    c.requires.epoch c.requires.base in
    let mid : TwoDisks g.row.D.Denot =
    record { first = c.in_order-first.result.0; second = c.in_order-first.result.1 } in
    let mid_is : mid ≡ disks = c.in_order-first.ensures ∙ ap (λ d. disks_by i.which d i.spare) c.close.ensures in
    let ended = c.reclaim_volume-ended in
    let new : TwoDisks g.row.D.Denot = record { first = ended.result.first; second = ended.result.second } in
    let volume = volume_made contents in
    let here : AreHonest state disks =
    subst (λ (v : OpenCartridge g.row.D.Denot). AreHonest state v.disks) (sym view) honest in
    let may = subst (λ (d : TwoDisks g.row.D.Denot). MayReclaim state d i.which header copied i.index contents.head
    (bodies_of notes.frames) volume) (sym mid_is)
    (may_reclaim state laws i.which side i.spare i.index notes header copied c.cartridge.invariant.0
    c.cartridge.invariant.2 c.see_bodies.ensures asked.fine asked.only asked.heading asked.epoch asked.base here) in
    let each : EachOfTwo state new (KeepsOldSide contents (seen_of_two state mid)) =
    subst (λ (r : Result Unit DevFault).
    OnOk r (EachOfTwo state new (KeepsOldSide contents (seen_of_two state mid)))) c.in-Ok.is
    (ended.ensures.sides (subst (AreHonest state) (sym mid_is) here) contents.head (bodies_of notes.frames) volume may)
    in
    let from_old : EachOfTwo state new (KeepsOldSide contents (seen_of_two state disks)) =
    subst (λ (d : TwoDisks g.row.D.Denot). EachOfTwo state new (KeepsOldSide contents (seen_of_two state d))) mid_is
    each in
    let seen : EachOfTwo state new
    (KeepsOldSide c.args.cartridge.contents (seen_of_two state c.args.cartridge.disks)) =
    subst (λ (v : OpenCartridge g.row.D.Denot).
    EachOfTwo state new (KeepsOldSide v.contents (seen_of_two state v.disks))) view from_old in
    subst (λ (d : TwoDisks g.row.D.Denot). EachOfTwo state d
    (KeepsOldSide c.args.cartridge.contents (seen_of_two state c.args.cartridge.disks)))
    (sym (ap (λ (r : ClosedCartridge g.row.D.Denot). r.disks) c.with.ensures ∙ c.apart-counts.ensures)) seen

pub with-requires-clause-contents : goal.with-requires-clause-contents
with-requires-clause-contents g c =
    let state = g.D.Disk.state in
    let laws = g.met.D.Disk.is_disk in
    let i = c.cartridge.inside in
    let view = c.cartridge.view_is in
    let notes = i.noted.notes in
    let side = i.journal in
    let contents = noted_as i.which side.front.head.copied notes in
    let disks = disks_by i.which side.disk i.spare in
    let header = c.args.plan.header in
    let copied = c.args.plan.copied in
    let asked = asked_before state _ _ header copied view c.requires.fine c.requires.sure c.requires.heading
    c.requires.epoch c.requires.base in
    let epoch_fits : copied.epoch < 2 ^ 64 = omega arith in
    let base_fits : copied.base < 2 ^ 32 = omega arith in
    let mid : TwoDisks g.row.D.Denot =
    record { first = c.in_order-first.result.0; second = c.in_order-first.result.1 } in
    let mid_is : mid ≡ disks = c.in_order-first.ensures ∙ ap (λ d. disks_by i.which d i.spare) c.close.ensures in
    let ended = c.reclaim_volume-ended in
    let new : TwoDisks g.row.D.Denot = record { first = ended.result.first; second = ended.result.second } in
    let volume = volume_made contents in
    let held = may_hold state laws i.which side i.spare i.index notes header copied c.cartridge.invariant.0
    c.cartridge.invariant.1 c.parts.ensures.limits epoch_fits base_fits asked.epoch asked.base in
    let now = c.other_side-now.result in
    let sized : copied.base ≡ length (bodies_of (copy_frames contents)) =
    asked.base ∙ sym (length-map (copy_frames contents) spell_all) in
    let same : reclaimed_from contents ≡ noted_as now (Some copied) c.copied.result.notes =
    λ k. noted_as (sym c.other_side-now.ensures k)
    (Some (let one : Copied = record { epoch = sym asked.epoch k; base = sym sized k } in one))
    (sym c.copied.ensures k) in
    subst IsContents same held

pub with-requires-clause-shows : goal.with-requires-clause-shows
with-requires-clause-shows g c = λ now_honest images left.
    let state = g.D.Disk.state in
    let laws = g.met.D.Disk.is_disk in
    let i = c.cartridge.inside in
    let view = c.cartridge.view_is in
    let notes = i.noted.notes in
    let side = i.journal in
    let contents = noted_as i.which side.front.head.copied notes in
    let disks = disks_by i.which side.disk i.spare in
    let header = c.args.plan.header in
    let copied = c.args.plan.copied in
    let asked = asked_before state _ _ header copied view c.requires.fine c.requires.sure c.requires.heading
    c.requires.epoch c.requires.base in
    let epoch_fits : copied.epoch < 2 ^ 64 = omega arith in
    let base_fits : copied.base < 2 ^ 32 = omega arith in
    let mid : TwoDisks g.row.D.Denot =
    record { first = c.in_order-first.result.0; second = c.in_order-first.result.1 } in
    let mid_is : mid ≡ disks = c.in_order-first.ensures ∙ ap (λ d. disks_by i.which d i.spare) c.close.ensures in
    let ended = c.reclaim_volume-ended in
    let new : TwoDisks g.row.D.Denot = record { first = ended.result.first; second = ended.result.second } in
    let volume = volume_made contents in
    let held = may_hold state laws i.which side i.spare i.index notes header copied c.cartridge.invariant.0
    c.cartridge.invariant.1 c.parts.ensures.limits epoch_fits base_fits asked.epoch asked.base in
    let counts = c.apart-counts.result.0 in
    let spare = c.apart-counts.result.1 in
    let now = c.other_side-now.result in
    let there : AreHonest state new = subst (AreHonest state) c.apart-counts.ensures now_honest in
    let before : AreHonest state mid =
    (ended.ensures.disks.0.was_honest there.0, ended.ensures.disks.1.was_honest there.1) in
    let here : AreHonest state disks = subst (AreHonest state) mid_is before in
    let may = subst (λ (d : TwoDisks g.row.D.Denot). MayReclaim state d i.which header copied i.index contents.head
    (bodies_of notes.frames) volume) (sym mid_is)
    (may_reclaim state laws i.which side i.spare i.index notes header copied c.cartridge.invariant.0
    c.cartridge.invariant.2 c.see_bodies.ensures asked.fine asked.only asked.heading asked.epoch asked.base here) in
    let each : EachOfTwo state new (GivesCopy i.which contents.head volume) =
    subst (λ (r : Result Unit DevFault). OnOk r (EachOfTwo state new (GivesCopy i.which contents.head volume)))
    c.in-Ok.is (ended.ensures.ok before contents.head (bodies_of notes.frames) volume may) in
    let moved : MayLeave state new images =
    subst (λ (d : TwoDisks g.row.D.Denot). MayLeave state d images) c.apart-counts.ensures left in
    let gives = copy_gives contents held images (each images moved) in
    let sized : copied.base ≡ length (bodies_of (copy_frames contents)) =
    asked.base ∙ sym (length-map (copy_frames contents) spell_all) in
    let same : reclaimed_from contents ≡ noted_as now (Some copied) c.copied.result.notes =
    λ k. noted_as (sym c.other_side-now.ensures k)
    (Some (let one : Copied = record { epoch = sym asked.epoch k; base = sym sized k } in one))
    (sym c.copied.ensures k) in
    inl (subst (λ (v : Contents). GivesContents v images) same gives)

pub returns-in-Ok-clause-volume : goal.returns-in-Ok-clause-volume
returns-in-Ok-clause-volume g c =
    let i = c.cartridge.inside in
    let notes = i.noted.notes in
    let contents = noted_as i.which i.journal.front.head.copied notes in
    let limits : IsVolume (volume_made contents) =
    volume_of_shape (volume_made contents)
    (subst IsVolume (indexes_shape (LiesOnSide notes i.journal.extents) (volume_made contents) i.index
    c.cartridge.invariant.0.lies) c.parts.ensures.limits) in
    let kept = reclaimed_volume contents c.cartridge.invariant.1 limits in
    let frames : volume_made c.with.result.contents ≡ volume_made (reclaimed_from contents) =
    ap (λ (r : ClosedCartridge g.row.D.Denot). volume_made r.contents) c.with.ensures
    ∙ (λ k. volume_made (noted_as i.which i.journal.front.head.copied (c.copied.ensures k))) in
    frames ∙ kept ∙ ap (λ (v : OpenCartridge g.row.D.Denot). volume_made v.contents) c.cartridge.view_is
