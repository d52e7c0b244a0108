use Rattle.std.proofs.Common.{◌≡◌, ◌∙◌, ◌<◌, ◌≤◌, ℕ, Bool, List, [], length, Option, Some, ap, subst, sym, vec_capacity}
use Rattle.std.specs.Prelude.{IfSome, OnOk, slice_get}
use Rattle.vtl_base.specs.Below.{Advances}
use Rattle.vtl_base.specs.declared.limits.TheConstants.{MAX_BLOCK}
use Rattle.volume_core.specs.declared.changes.Change.{Change}
use Rattle.volume_core.specs.declared.objects.Kind.TheVariants as Kinds
use Rattle.volume_core.specs.Volume.{AllApply, Part, after, block_at, block_in, kind_at, kind_in, objects_of}
use Rattle.tape_disk.specs.TwoDisks.{failures_of}
use Rattle.cartridge.specs.Contents.{volume_made}
use Rattle.tape_buffer.specs.Moves.{buffer_below}
use Rattle.tape_buffer.specs.State.{open_buffer}
use Rattle.tape_buffer.proofs.CoreLemmas.{rests}
use Rattle.tape_buffer.proofs.FetchingLemmas.{copied_block, copied_memory, copied_short, copied_well, fetched, fetched_lack}
use Rattle.tape_buffer.proofs.fetching.fetch_over.Goals as goal

pub returns-then-has_failed-clause-advances : goal.returns-then-has_failed-clause-advances
returns-then-has_failed-clause-advances g c =
    rests g.D.Disk.state g.met.D.Disk.is_disk (open_buffer c.args.cartridge.now c.args.pending.now)

pub waiting_block-requires : goal.waiting_block-requires
waiting_block-requires g c =
    subst (λ (l : List Change). (volume : List Part) × AllApply volume l
    × (kind_at (after volume l) c.args.part c.args.at ≡ Some Kinds.Block)) (sym c.as_slice.ensures)
    (volume_made c.args.cartridge.now.contents, c.requires.held.apply, c.requires.block)

-- what waits
waits : {slice : List Change} (volume : List Part) (pending : List Change) (part at : ℕ) (block : List ℕ)
    → slice ≡ pending → AllApply volume pending → kind_at (after volume pending) part at ≡ Some Kinds.Block
    → ((volume : List Part) → AllApply volume slice → kind_at (after volume slice) part at ≡ Some Kinds.Block
    → (block_at (after volume slice) part at ≡ Some block) × (length block ≤ MAX_BLOCK))
    → (block_at (after volume pending) part at ≡ Some block) × (length block ≤ MAX_BLOCK)
waits volume pending part at block is all there found =
    subst (λ (l : List Change). AllApply volume l → kind_at (after volume l) part at ≡ Some Kinds.Block
    → (block_at (after volume l) part at ≡ Some block) × (length block ≤ MAX_BLOCK)) is (found volume) all there

-- what is stored
stored : {slice : List Change} (volume : List Part) (pending : List Change) (part at : ℕ) → slice ≡ pending
    → AllApply volume pending
    → ((volume : List Part) → AllApply volume slice
    → slice_get (objects_of (after volume slice) part) at ≡ slice_get (objects_of volume part) at)
    → slice_get (objects_of (after volume pending) part) at ≡ slice_get (objects_of volume part) at
stored volume pending part at is all found =
    subst (λ (l : List Change). AllApply volume l → slice_get (objects_of (after volume l) part) at
    ≡ slice_get (objects_of volume part) at) is (found volume) all

pub returns-in-Some-clause-bytes : goal.returns-in-Some-clause-bytes
returns-in-Some-clause-bytes g c = λ honest.
    let volume = volume_made c.args.cartridge.now.contents in
    let there = waits volume c.args.pending.now c.args.part c.args.at c.in-Some.block.now c.as_slice.ensures
    c.requires.held.apply c.requires.block c.in-Some.ensures.waits in
    copied_block c.in-Some.block.now (vec_capacity c.args.into.now)
    (block_at (after volume c.args.pending.now) c.args.part c.args.at)
    there.0 c.copy_block.result c.copy_block.new.into.items c.copy_block.ensures

pub returns-in-Some-clause-bound : goal.returns-in-Some-clause-bound
returns-in-Some-clause-bound g c =
    let volume = volume_made c.args.cartridge.now.contents in
    let there = waits volume c.args.pending.now c.args.part c.args.at c.in-Some.block.now c.as_slice.ensures
    c.requires.held.apply c.requires.block c.in-Some.ensures.waits in
    copied_short c.in-Some.block.now (vec_capacity c.args.into.now)
    (block_at (after volume c.args.pending.now) c.args.part c.args.at)
    there.0 c.copy_block.result c.copy_block.new.into.items c.copy_block.ensures there.1

pub returns-in-Some-clause-memory : goal.returns-in-Some-clause-memory
returns-in-Some-clause-memory g c = λ none.
    let volume = volume_made c.args.cartridge.now.contents in
    let there = waits volume c.args.pending.now c.args.part c.args.at c.in-Some.block.now c.as_slice.ensures
    c.requires.held.apply c.requires.block c.in-Some.ensures.waits in
    copied_memory c.in-Some.block.now (vec_capacity c.args.into.now)
    (block_at (after volume c.args.pending.now) c.args.part c.args.at)
    there.0 c.copy_block.result c.copy_block.new.into.items c.copy_block.ensures none

pub returns-in-Some-clause-advances : goal.returns-in-Some-clause-advances
returns-in-Some-clause-advances g c =
    subst (λ (fault : Bool). Advances (buffer_below g.D.Disk.state)
    (open_buffer c.args.cartridge.now c.args.pending.now) [] fault
    (open_buffer c.args.cartridge.now c.args.pending.now))
    (sym (copied_well c.in-Some.block.now (vec_capacity c.args.into.now) c.copy_block.result
    c.copy_block.new.into.items c.copy_block.ensures))
    (rests g.D.Disk.state g.met.D.Disk.is_disk (open_buffer c.args.cartridge.now c.args.pending.now))

pub fetch_stored-requires-clause-block : goal.fetch_stored-requires-clause-block
fetch_stored-requires-clause-block g c =
    let volume = volume_made c.args.cartridge.now.contents in
    let same = stored volume c.args.pending.now c.args.part c.args.at c.as_slice.ensures c.requires.held.apply
    c.in-None.ensures.stored in
    sym (ap kind_in same) ∙ c.requires.block

pub returns-in-None-clause-bytes : goal.returns-in-None-clause-bytes
returns-in-None-clause-bytes g c = λ honest.
    let volume = volume_made c.args.cartridge.now.contents in
    let same = stored volume c.args.pending.now c.args.part c.args.at c.as_slice.ensures c.requires.held.apply
    c.in-None.ensures.stored in
    subst (λ (o : Option (List ℕ)). OnOk c.fetch_stored.result (o ≡ Some c.fetch_stored.new.into.items))
    (sym (ap block_in same)) (c.fetch_stored.ensures.bytes honest)

pub returns-in-None-clause-memory : goal.returns-in-None-clause-memory
returns-in-None-clause-memory g c = λ none.
    let volume = volume_made c.args.cartridge.now.contents in
    let same = stored volume c.args.pending.now c.args.part c.args.at c.as_slice.ensures c.requires.held.apply
    c.in-None.ensures.stored in
    subst (λ (o : Option (List ℕ)). IfSome o (λ block. vec_capacity c.args.into.now < length block))
    (sym (ap block_in same))
    (fetched_lack
    (IfSome (block_at volume c.args.part c.args.at) (λ block. vec_capacity c.args.into.now < length block))
    c.fetch_stored.new.cartridge.failed (failures_of g.D.Disk.state c.args.cartridge.now.disks)
    (failures_of g.D.Disk.state c.fetch_stored.new.cartridge.disks) c.fetch_stored.result
    c.fetch_stored.ensures.answer none)

pub returns-in-None-clause-advances : goal.returns-in-None-clause-advances
returns-in-None-clause-advances g c =
    fetched g.D.Disk.state g.met.D.Disk.is_disk c.args.cartridge.now c.fetch_stored.new.cartridge c.args.pending.now
    (sym c.has_failed.ensures ∙ c.if-has_failed.false) c.fetch_stored.ensures.same c.fetch_stored.ensures.disks
    c.fetch_stored.ensures.unwritten
    (IfSome (block_at (volume_made c.args.cartridge.now.contents) c.args.part c.args.at)
    (λ block. vec_capacity c.args.into.now < length block))
    c.fetch_stored.result c.fetch_stored.ensures.answer
