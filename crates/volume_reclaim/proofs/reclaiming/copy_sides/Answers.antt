use Rattle.std.proofs.Common.{◌≡◌, ◌⊎◌, ⊎_elim, inl, inr, ℕ, List, length, subst, sym, ap, ◌∙◌}
use Rattle.std.specs.Prelude.{IfErr, OnOk, Result}
use Rattle.std.proofs.lemmas.Result.{on_ok_weaker}
use Rattle.vtl_base.specs.declared.faults.DevFault.{DevFault}
use Rattle.gate_journal.specs.declared.header.Header.{Header}
use Rattle.gate_journal.specs.declared.heads.Copied.{Copied}
use Rattle.object_index.specs.Indexes.{Indexes}
use Rattle.object_index.specs.Places.{PlacedPart}
use Rattle.volume_core.specs.Volume.{Part}
use Rattle.tape_disk.specs.Disk.{DiskState, IsDisk}
use Rattle.tape_disk.specs.Moments.{LeavesOnly}
use Rattle.tape_disk.specs.TwoDisks.{AreHonest, EachOfTwo, TwoLeave}
use Rattle.gate_journal.specs.Crash.{Unwritten}
use Rattle.cartridge_sides.specs.declared.which.Which.{Which}
use Rattle.gate_journal.specs.Heads.{Head}
use Rattle.cartridge_sides.specs.Copying.{GivesAll, NotCopied}
use Rattle.cartridge_sides.specs.Passes.{SidesStandFor, TakesOver}
use Rattle.side_reclaim.specs.Ready.{GivesSide, IsReady}
use Rattle.side_reclaim.specs.Taking.{HasTaken, WithOrWithoutCopy}
use Rattle.volume_copy.specs.declared.entries.Entry.{Entry}
use Rattle.volume_copy.specs.Copies.{copy_of}
use Rattle.volume_copy.specs.Entries.{entries_from, entries_in, entry_size}
use Rattle.volume_copy.specs.EntryFacts.{part_begins}
use Rattle.volume_copy.specs.FrameFacts.{match_frames}
use Rattle.volume_copy.specs.Frames.{frames_by, frames_of}
use Rattle.volume_copy.specs.Matching.{AllFramesMatch, match_copy}
use Rattle.volume_reclaim.specs.declared.source.Source.{Source}
use Rattle.volume_reclaim.specs.Inner.Giving.{SourceFails, SourceGives, disk_of, items_of}
use Rattle.volume_reclaim.specs.Reading.{LiesOnDisk, OnlyRead}
use Rattle.volume_reclaim.specs.Reclaiming.{GivesCopy, MayReclaim, copy_bodies, two_by}
use Rattle.volume_reclaim.proofs.GivenLemmas.{all_given, all_read}
use Rattle.volume_reclaim.proofs.SidesLemmas.{Rests, both_move, each_of_two, honest_by, old_side_beside, lies_by, may_take, rests, stands_as, sure_by, takes_as}
use Rattle.volume_reclaim.proofs.reclaiming.copy_sides.Goals as goal

-- the entries that are left at the beginning of the copy
whole : (parts : List PlacedPart) (part at : ℕ) → part ≡ 0 → at ≡ 0 → entries_from parts part at ≡ entries_in parts
whole parts part at first begins = (λ i. entries_from parts (first i) (begins i)) ∙ part_begins parts 0

module _ {D : Type 0} (state : D → DiskState) (laws : (disk : D) → (state disk).honest → IsDisk (state disk)) where
  reads : (bodies : List (List ℕ)) (a b : Source D) → GivesAll (SourceGives state) a bodies b
      → OnlyRead (disk_of state a) (disk_of state b)
  reads = all_read (SourceGives state) (disk_of state) (items_of state) (λ a body b gives. (gives.1, gives.2))
      (λ a. laws a.blocks.disk)

  rested : (r : Result Unit DevFault) (header : Header) (copied : Copied) (old new : Source D)
      (spare_old spare_new : DiskState)
      → OnOk r ((copies : List (List ℕ)) × HasTaken (SourceGives state) header copied copies old new spare_old
      spare_new)
      → IfErr r (λ fault. NotCopied (SourceGives state) (SourceFails state) fault old new spare_old spare_new)
      → Rests (SourceGives state) (SourceFails state) (disk_of state) reads (λ a fault b fails. fails) r old new
      spare_old spare_new
  rested = rests (SourceGives state) (SourceFails state) (disk_of state) reads (λ a fault b fails. fails)

  -- the bodies that were given are the copy of the volume
  copy_given : (old new : Source D) (parts : List PlacedPart) (volume : List Part) (copies : List (List ℕ)) (base : ℕ)
      → items_of state old ≡ entries_in parts → (disk_of state old).honest
      → Indexes (LiesOnDisk (disk_of state old)) volume parts → base ≡ length (frames_by entry_size (entries_in parts))
      → GivesAll (SourceGives state) old copies new → length copies ≡ base → copies ≡ copy_bodies volume
  copy_given old new parts volume copies base begins honest lies count gave sized =
      all_given (SourceGives state) (disk_of state) (items_of state) (λ a body b gives. (gives.1, gives.2))
      (λ a. laws a.blocks.disk) (frames_of (copy_of volume)) copies old new honest
      (subst (λ (l : List Entry). AllFramesMatch (LiesOnDisk (disk_of state old)) (frames_of (copy_of volume))
      (frames_by entry_size l)) (sym begins)
      (match_frames (LiesOnDisk (disk_of state old)) (copy_of volume) (entries_in parts)
      (match_copy (LiesOnDisk (disk_of state old)) volume parts lies)))
      gave (sized ∙ count ∙ ap (λ (l : List Entry). length (frames_by entry_size l)) (sym begins))

  -- where the copy was written
  taken_over : (which : Which) (counts counts_new spare spare_new : D) (header : Header) (copied : Copied)
      (old new : Source D) (parts : List PlacedPart) (head : Head) (bodies : List (List ℕ)) (volume : List Part)
      (copies : List (List ℕ))
      → AreHonest state (two_by which counts spare)
      → MayReclaim state (two_by which counts spare) which header copied parts head bodies volume
      → IsReady state (two_by which counts spare) which
      → Unwritten (state counts) (state counts_new) → copies ≡ copy_bodies volume
      → HasTaken (SourceGives state) header copied copies old new (state spare) (state spare_new)
      → EachOfTwo state (two_by which counts_new spare_new) (GivesCopy which head volume)
  taken_over which counts counts_new spare spare_new header copied old new parts head bodies volume copies honest may
      ready unwritten are taken =
      each_of_two state laws which counts_new spare_new (state counts).seen (GivesCopy which head volume)
      (TakesOver which head copies (state counts).seen)
      (λ image left. sure_by state which counts spare head bodies may.gives image (unwritten.images image left))
      (taken.takes_over (honest_by state which counts spare honest).1 which head bodies (state counts).seen
      (may_take state which counts spare header copied parts head bodies volume may ready))
      (λ image takes. takes_as which head volume copies (state counts).seen image are takes)

  -- at each moment
  moves_over : (which : Which) (counts counts_new spare spare_new : D) (header : Header) (copied : Copied)
      (old new : Source D) (parts : List PlacedPart) (head : Head) (bodies : List (List ℕ)) (volume : List Part)
      → AreHonest state (two_by which counts spare) → (state spare_new).honest
      → MayReclaim state (two_by which counts spare) which header copied parts head bodies volume
      → IsReady state (two_by which counts spare) which
      → Unwritten (state counts) (state counts_new)
      → ((copies : List (List ℕ)) → GivesAll (SourceGives state) old copies new → length copies ≡ copied.base
      → copies ≡ copy_bodies volume)
      → LeavesOnly (state spare) (state spare_new)
      (WithOrWithoutCopy (SourceGives state) copied.base old new which head bodies (state counts).seen)
      → TwoLeave state (two_by which counts spare) (two_by which counts_new spare_new)
      (λ images. GivesSide which head bodies images ⊎ GivesCopy which head volume images)
  moves_over which counts counts_new spare spare_new header copied old new parts head bodies volume honest then_honest
      may ready unwritten are run =
      let seen = (state counts).seen in
      let take = may_take state which counts spare header copied parts head bodies volume may ready in
      both_move state laws which counts counts_new spare spare_new
      (λ images. GivesSide which head bodies images ⊎ GivesCopy which head volume images)
      (WithOrWithoutCopy (SourceGives state) copied.base old new which head bodies seen)
      (sure_by state which counts spare head bodies may.gives) unwritten then_honest
      (λ image left. inl (subst (SidesStandFor which head bodies seen) (sym (take.sure image left)) take.stands)) run
      (λ image. ⊎_elim (λ stands. inl (stands_as which head bodies seen image stands))
      (λ given. inr (takes_as which head volume given.0 seen image (are given.0 given.1 given.2) given.3)))

pub returns-clause-disks : goal.returns-clause-disks
returns-clause-disks g c =
    let state = g.D.Disk.state in
    let old : Source g.row.D.Denot =
    record { blocks = record { disk = c.args.counts }; index = c.args.index; cursor = c.start.result } in
    let copied = c.copy_over-result in
    let rest = rested state g.met.D.Disk.is_disk copied.result c.args.header.now c.args.copied old copied.new.source
    (state c.args.spare) (state copied.new.spare) copied.ensures.ok copied.ensures.err in
    (rest.keeps, copied.ensures.disk)

pub returns-clause-faults : goal.returns-clause-faults
returns-clause-faults g c =
    let state = g.D.Disk.state in
    let old : Source g.row.D.Denot =
    record { blocks = record { disk = c.args.counts }; index = c.args.index; cursor = c.start.result } in
    let copied = c.copy_over-result in
    let rest = rested state g.met.D.Disk.is_disk copied.result c.args.header.now c.args.copied old copied.new.source
    (state c.args.spare) (state copied.new.spare) copied.ensures.ok copied.ensures.err in
    rest.faults

pub returns-clause-ok : goal.returns-clause-ok
returns-clause-ok g c = λ honest head bodies volume may ready.
    let state = g.D.Disk.state in
    let laws = g.met.D.Disk.is_disk in
    let which = c.args.which in
    let counts = c.args.counts in
    let spare = c.args.spare in
    let old : Source g.row.D.Denot =
    record { blocks = record { disk = counts }; index = c.args.index; cursor = c.start.result } in
    let copied = c.copy_over-result in
    let rest = rested state laws copied.result c.args.header.now c.args.copied old copied.new.source
    (state spare) (state copied.new.spare) copied.ensures.ok copied.ensures.err in
    let both = honest_by state which counts spare honest in
    on_ok_weaker copied.result
    (λ taken. taken_over state laws which counts copied.new.source.blocks.disk spare copied.new.spare c.args.header.now
    c.args.copied old copied.new.source c.args.index head bodies volume taken.0 honest may ready (rest.unwritten both.0)
    (copy_given state laws old copied.new.source c.args.index volume taken.0 c.args.copied.base
    (whole c.args.index c.start.result.part c.start.result.at c.start.ensures.part c.start.ensures.at) both.0
    (lies_by state which counts spare c.args.index volume may.lies) may.base taken.1.gave taken.1.count_is) taken.1)
    copied.ensures.ok

pub returns-clause-sides : goal.returns-clause-sides
returns-clause-sides g c = λ honest head bodies volume may ready.
    let state = g.D.Disk.state in
    let laws = g.met.D.Disk.is_disk in
    let which = c.args.which in
    let counts = c.args.counts in
    let spare = c.args.spare in
    let old : Source g.row.D.Denot =
    record { blocks = record { disk = counts }; index = c.args.index; cursor = c.start.result } in
    let copied = c.copy_over-result in
    let rest = rested state laws copied.result c.args.header.now c.args.copied old copied.new.source
    (state spare) (state copied.new.spare) copied.ensures.ok copied.ensures.err in
    let both = honest_by state which counts spare honest in
    on_ok_weaker copied.result
    (λ taken. old_side_beside state which counts copied.new.source.blocks.disk spare copied.new.spare head bodies volume
    taken.0 may.gives (rest.unwritten both.0)
    (copy_given state laws old copied.new.source c.args.index volume taken.0 c.args.copied.base
    (whole c.args.index c.start.result.part c.start.result.at c.start.ensures.part c.start.ensures.at) both.0
    (lies_by state which counts spare c.args.index volume may.lies) may.base taken.1.gave taken.1.count_is)
    (taken.1.alone both.1 which head bodies (state counts).seen
    (may_take state which counts spare c.args.header.now c.args.copied c.args.index head bodies volume may ready)))
    copied.ensures.ok

pub returns-clause-any_moment : goal.returns-clause-any_moment
returns-clause-any_moment g c = λ honest head bodies volume may ready.
    let state = g.D.Disk.state in
    let laws = g.met.D.Disk.is_disk in
    let which = c.args.which in
    let counts = c.args.counts in
    let spare = c.args.spare in
    let old : Source g.row.D.Denot =
    record { blocks = record { disk = counts }; index = c.args.index; cursor = c.start.result } in
    let copied = c.copy_over-result in
    let rest = rested state laws copied.result c.args.header.now c.args.copied old copied.new.source
    (state spare) (state copied.new.spare) copied.ensures.ok copied.ensures.err in
    let both = honest_by state which counts spare honest in
    moves_over state laws which counts copied.new.source.blocks.disk spare copied.new.spare c.args.header.now
    c.args.copied old copied.new.source c.args.index head bodies volume honest
    (copied.ensures.disk.stays_honest both.1) may ready (rest.unwritten both.0)
    (λ copies gave sized. copy_given state laws old copied.new.source c.args.index volume copies c.args.copied.base
    (whole c.args.index c.start.result.part c.start.result.at c.start.ensures.part c.start.ensures.at) both.0
    (lies_by state which counts spare c.args.index volume may.lies) may.base gave sized)
    (copied.ensures.any_moment both.1 which head bodies (state counts).seen
    (may_take state which counts spare c.args.header.now c.args.copied c.args.index head bodies volume may ready))
