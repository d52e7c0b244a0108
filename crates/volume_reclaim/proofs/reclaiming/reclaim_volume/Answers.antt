use Rattle.std.proofs.Common.{◌≡◌, ◌⊎◌, inl, subst, sym}
use Rattle.std.specs.Prelude.{OnOk}
use Rattle.tape_disk.specs.TwoDisks.{AreHonest, EachOfTwo, Images, TwoDisks, TwoLeave, seen_of_two, two_in_sequence, two_weakened}
use Rattle.cartridge_sides.specs.declared.which.Which.{Which}
use Rattle.cartridge_sides.specs.declared.which.Which.TheVariants.{First, Second}
use Rattle.side_reclaim.specs.Ready.{GivesSide, IsReady}
use Rattle.volume_reclaim.specs.Reclaiming.{GivesCopy, KeepsBesideCopy, MayReclaim, two_by}
use Rattle.volume_reclaim.proofs.SidesLemmas.{old_side_since, may_still}
use Rattle.volume_reclaim.proofs.reclaiming.reclaim_volume.Goals as goal

pub returns-in-Err-clause-any_moment : goal.returns-in-Err-clause-any_moment
returns-in-Err-clause-any_moment g c = λ honest head bodies volume may.
    let state = g.D.Disk.state in
    let old : TwoDisks g.row.D.Denot = record { first = c.args.first; second = c.args.second } in
    let mid : TwoDisks g.row.D.Denot = record { first = c.make_ready.new.first; second = c.make_ready.new.second } in
    two_weakened state old mid (GivesSide c.args.which head bodies)
    (λ images. GivesSide c.args.which head bodies images ⊎ GivesCopy c.args.which head volume images)
    (c.make_ready.ensures.any_moment honest head bodies may.gives) (λ images gives. inl gives)

pub returns-in-First-clause-any_moment : goal.returns-in-First-clause-any_moment
returns-in-First-clause-any_moment g c = λ honest head bodies volume may.
    let state = g.D.Disk.state in
    let which = c.args.which in
    let old : TwoDisks g.row.D.Denot = record { first = c.args.first; second = c.args.second } in
    let mid : TwoDisks g.row.D.Denot = record { first = c.make_ready.new.first; second = c.make_ready.new.second } in
    let made = c.copy_sides-done in
    let disks = c.make_ready.ensures.disks in
    let still : AreHonest state mid = (disks.0.stays_honest honest.0, disks.1.stays_honest honest.1) in
    let ready = c.in-Ok.ensures.ok honest head bodies may.gives in
    let then_may = may_still state which old mid c.args.header.now c.args.copied c.args.index head bodies volume honest
    may ready.0 in
    let mid_is : mid ≡ two_by which c.make_ready.new.first c.make_ready.new.second =
    λ i. two_by (sym c.in-First.is i) c.make_ready.new.first c.make_ready.new.second in
    let new : TwoDisks g.row.D.Denot = two_by First made.result.counts made.result.spare in
    let P = λ (images : Images). GivesSide which head bodies images ⊎ GivesCopy which head volume images in
    two_in_sequence state old mid new P
    (two_weakened state old mid (GivesSide which head bodies) P
    (c.make_ready.ensures.any_moment honest head bodies may.gives) (λ images gives. inl gives))
    (subst (λ (w : Which). TwoLeave state mid (two_by w made.result.counts made.result.spare) P) c.in-First.is
    (subst (λ (d : TwoDisks g.row.D.Denot). TwoLeave state d (two_by which made.result.counts made.result.spare) P)
    (sym mid_is)
    (made.ensures.any_moment (subst (AreHonest state) mid_is still) head bodies volume
    (subst (λ (d : TwoDisks g.row.D.Denot). MayReclaim state d which c.args.header.now c.args.copied c.args.index head
    bodies volume) mid_is then_may)
    (subst (λ (d : TwoDisks g.row.D.Denot). IsReady state d which) mid_is ready.1))))

pub returns-in-First-clause-ok : goal.returns-in-First-clause-ok
returns-in-First-clause-ok g c = λ honest head bodies volume may.
    let state = g.D.Disk.state in
    let which = c.args.which in
    let old : TwoDisks g.row.D.Denot = record { first = c.args.first; second = c.args.second } in
    let mid : TwoDisks g.row.D.Denot = record { first = c.make_ready.new.first; second = c.make_ready.new.second } in
    let made = c.copy_sides-done in
    let disks = c.make_ready.ensures.disks in
    let still : AreHonest state mid = (disks.0.stays_honest honest.0, disks.1.stays_honest honest.1) in
    let ready = c.in-Ok.ensures.ok honest head bodies may.gives in
    let then_may = may_still state which old mid c.args.header.now c.args.copied c.args.index head bodies volume honest
    may ready.0 in
    let mid_is : mid ≡ two_by which c.make_ready.new.first c.make_ready.new.second =
    λ i. two_by (sym c.in-First.is i) c.make_ready.new.first c.make_ready.new.second in
    subst (λ (w : Which). OnOk made.result.result
    (EachOfTwo state (two_by w made.result.counts made.result.spare) (GivesCopy which head volume))) c.in-First.is
    (made.ensures.ok (subst (AreHonest state) mid_is still) head bodies volume
    (subst (λ (d : TwoDisks g.row.D.Denot). MayReclaim state d which c.args.header.now c.args.copied c.args.index head
    bodies volume) mid_is then_may)
    (subst (λ (d : TwoDisks g.row.D.Denot). IsReady state d which) mid_is ready.1))

pub returns-in-Second-clause-any_moment : goal.returns-in-Second-clause-any_moment
returns-in-Second-clause-any_moment g c = λ honest head bodies volume may.
    let state = g.D.Disk.state in
    let which = c.args.which in
    let old : TwoDisks g.row.D.Denot = record { first = c.args.first; second = c.args.second } in
    let mid : TwoDisks g.row.D.Denot = record { first = c.make_ready.new.first; second = c.make_ready.new.second } in
    let made = c.copy_sides-done-in-Second in
    let disks = c.make_ready.ensures.disks in
    let still : AreHonest state mid = (disks.0.stays_honest honest.0, disks.1.stays_honest honest.1) in
    let ready = c.in-Ok.ensures.ok honest head bodies may.gives in
    let then_may = may_still state which old mid c.args.header.now c.args.copied c.args.index head bodies volume honest
    may ready.0 in
    let mid_is : mid ≡ two_by which c.make_ready.new.second c.make_ready.new.first =
    λ i. two_by (sym c.in-Second.is i) c.make_ready.new.second c.make_ready.new.first in
    let new : TwoDisks g.row.D.Denot = two_by Second made.result.counts made.result.spare in
    let P = λ (images : Images). GivesSide which head bodies images ⊎ GivesCopy which head volume images in
    two_in_sequence state old mid new P
    (two_weakened state old mid (GivesSide which head bodies) P
    (c.make_ready.ensures.any_moment honest head bodies may.gives) (λ images gives. inl gives))
    (subst (λ (w : Which). TwoLeave state mid (two_by w made.result.counts made.result.spare) P) c.in-Second.is
    (subst (λ (d : TwoDisks g.row.D.Denot). TwoLeave state d (two_by which made.result.counts made.result.spare) P)
    (sym mid_is)
    (made.ensures.any_moment (subst (AreHonest state) mid_is still) head bodies volume
    (subst (λ (d : TwoDisks g.row.D.Denot). MayReclaim state d which c.args.header.now c.args.copied c.args.index head
    bodies volume) mid_is then_may)
    (subst (λ (d : TwoDisks g.row.D.Denot). IsReady state d which) mid_is ready.1))))

pub returns-in-Second-clause-ok : goal.returns-in-Second-clause-ok
returns-in-Second-clause-ok g c = λ honest head bodies volume may.
    let state = g.D.Disk.state in
    let which = c.args.which in
    let old : TwoDisks g.row.D.Denot = record { first = c.args.first; second = c.args.second } in
    let mid : TwoDisks g.row.D.Denot = record { first = c.make_ready.new.first; second = c.make_ready.new.second } in
    let made = c.copy_sides-done-in-Second in
    let disks = c.make_ready.ensures.disks in
    let still : AreHonest state mid = (disks.0.stays_honest honest.0, disks.1.stays_honest honest.1) in
    let ready = c.in-Ok.ensures.ok honest head bodies may.gives in
    let then_may = may_still state which old mid c.args.header.now c.args.copied c.args.index head bodies volume honest
    may ready.0 in
    let mid_is : mid ≡ two_by which c.make_ready.new.second c.make_ready.new.first =
    λ i. two_by (sym c.in-Second.is i) c.make_ready.new.second c.make_ready.new.first in
    subst (λ (w : Which). OnOk made.result.result
    (EachOfTwo state (two_by w made.result.counts made.result.spare) (GivesCopy which head volume))) c.in-Second.is
    (made.ensures.ok (subst (AreHonest state) mid_is still) head bodies volume
    (subst (λ (d : TwoDisks g.row.D.Denot). MayReclaim state d which c.args.header.now c.args.copied c.args.index head
    bodies volume) mid_is then_may)
    (subst (λ (d : TwoDisks g.row.D.Denot). IsReady state d which) mid_is ready.1))

pub returns-in-First-clause-sides : goal.returns-in-First-clause-sides
returns-in-First-clause-sides g c = λ honest head bodies volume may.
    let state = g.D.Disk.state in
    let which = c.args.which in
    let old : TwoDisks g.row.D.Denot = record { first = c.args.first; second = c.args.second } in
    let mid : TwoDisks g.row.D.Denot = record { first = c.make_ready.new.first; second = c.make_ready.new.second } in
    let made = c.copy_sides-done in
    let disks = c.make_ready.ensures.disks in
    let still : AreHonest state mid = (disks.0.stays_honest honest.0, disks.1.stays_honest honest.1) in
    let ready = c.in-Ok.ensures.ok honest head bodies may.gives in
    let then_may = may_still state which old mid c.args.header.now c.args.copied c.args.index head bodies volume honest
    may ready.0 in
    let mid_is : mid ≡ two_by which c.make_ready.new.first c.make_ready.new.second =
    λ i. two_by (sym c.in-First.is i) c.make_ready.new.first c.make_ready.new.second in
    subst (λ (w : Which). OnOk made.result.result
    (EachOfTwo state (two_by w made.result.counts made.result.spare)
    (KeepsBesideCopy which head volume (seen_of_two state old)))) c.in-First.is
    (old_side_since state which head bodies volume old mid (two_by which made.result.counts made.result.spare)
    made.result.result ready.0
    (subst (λ (d : TwoDisks g.row.D.Denot). OnOk made.result.result
    (EachOfTwo state (two_by which made.result.counts made.result.spare)
    (KeepsBesideCopy which head volume (seen_of_two state d)))) (sym mid_is)
    (made.ensures.sides (subst (AreHonest state) mid_is still) head bodies volume
    (subst (λ (d : TwoDisks g.row.D.Denot). MayReclaim state d which c.args.header.now c.args.copied c.args.index head
    bodies volume) mid_is then_may)
    (subst (λ (d : TwoDisks g.row.D.Denot). IsReady state d which) mid_is ready.1))))

pub returns-in-Second-clause-sides : goal.returns-in-Second-clause-sides
returns-in-Second-clause-sides g c = λ honest head bodies volume may.
    let state = g.D.Disk.state in
    let which = c.args.which in
    let old : TwoDisks g.row.D.Denot = record { first = c.args.first; second = c.args.second } in
    let mid : TwoDisks g.row.D.Denot = record { first = c.make_ready.new.first; second = c.make_ready.new.second } in
    let made = c.copy_sides-done-in-Second in
    let disks = c.make_ready.ensures.disks in
    let still : AreHonest state mid = (disks.0.stays_honest honest.0, disks.1.stays_honest honest.1) in
    let ready = c.in-Ok.ensures.ok honest head bodies may.gives in
    let then_may = may_still state which old mid c.args.header.now c.args.copied c.args.index head bodies volume honest
    may ready.0 in
    let mid_is : mid ≡ two_by which c.make_ready.new.second c.make_ready.new.first =
    λ i. two_by (sym c.in-Second.is i) c.make_ready.new.second c.make_ready.new.first in
    subst (λ (w : Which). OnOk made.result.result
    (EachOfTwo state (two_by w made.result.counts made.result.spare)
    (KeepsBesideCopy which head volume (seen_of_two state old)))) c.in-Second.is
    (old_side_since state which head bodies volume old mid (two_by which made.result.counts made.result.spare)
    made.result.result ready.0
    (subst (λ (d : TwoDisks g.row.D.Denot). OnOk made.result.result
    (EachOfTwo state (two_by which made.result.counts made.result.spare)
    (KeepsBesideCopy which head volume (seen_of_two state d)))) (sym mid_is)
    (made.ensures.sides (subst (AreHonest state) mid_is still) head bodies volume
    (subst (λ (d : TwoDisks g.row.D.Denot). MayReclaim state d which c.args.header.now c.args.copied c.args.index head
    bodies volume) mid_is then_may)
    (subst (λ (d : TwoDisks g.row.D.Denot). IsReady state d which) mid_is ready.1))))
