use Rattle.std.proofs.Common.{◌≡◌, ◌∙◌, List, [], Err, Ok, false, refl, subst, sym}
use Rattle.std.specs.Prelude.{◌≢◌}
use Rattle.vtl_base.specs.Below.{Advances}
use Rattle.volume_core.specs.declared.media.MediumError.{MediumError}
use Rattle.volume_core.specs.declared.media.MediumError.TheVariants as Media
use Rattle.volume_core.specs.declared.changes.Change.{Change}
use Rattle.volume_core.specs.Medium.{WakesFrom, met_fault, volume_of}
use Rattle.object_index.specs.Shapes.{IsIndexOf}
use Rattle.tape_disk.specs.TwoDisks.{AreHonest, seen_of_two}
use Rattle.gate_journal.specs.State.{room_behind}
use Rattle.cartridge_sides.specs.Pairs.{gate_behind}
use Rattle.cartridge.specs.declared.error.CartridgeError.TheVariants as Cartridges
use Rattle.cartridge.specs.Contents.{bodies_of, volume_made}
use Rattle.cartridge.specs.State.{ClosedCartridge, OpenCartridge}
use Rattle.tape_buffer.specs.Moves.{LeavesAlone, LeavesEachAlone, buffer_below}
use Rattle.tape_buffer.specs.State.{IsPendingOver, IsSettledOn, closed_buffer, closed_state, open_buffer, open_state}
use Rattle.tape_buffer.proofs.OpeningLemmas.{advances_opened, nothing_over, opens}
use Rattle.tape_buffer.proofs.TwoLemmas.{read_now, stay_honest}
use Rattle.tape_buffer.proofs.WakingLemmas.{stays_closed}
use Rattle.tape_buffer.proofs.closing.wake_closed.Goals as goal

pub returns-in-Ok-memory_for-clause-ok : goal.returns-in-Ok-memory_for-clause-ok
returns-in-Ok-memory_for-clause-ok g c =
    let disk = g.D.Disk.state in
    let told = c.in-Ok.ensures in
    let one = c.a_pair_gives_one_volume.ensures.contents in
    let old = c.args.shelved in
    let new = c.in-Ok.opening.cartridge in
    let room = subst (λ (k : OpenCartridge _). AreHonest disk k.disks → k.room ≡ room_behind
    (gate_behind k.contents.head (bodies_of k.contents.frames))) c.keep-cartridge.ensures
    c.known-in-Ok-memory_for.ensures.room in
    subst (λ (p : OpenCartridge _ × List Change). IsPendingOver p.0 p.1
    × WakesFrom (AreHonest disk old.disks) false (closed_state disk old) (Ok tt) (open_state p.0 p.1)
    × Advances (buffer_below disk) (closed_buffer old) [] false (open_buffer p.0 p.1)
    × LeavesAlone disk (closed_buffer old) (open_buffer p.0 p.1)
    × LeavesEachAlone disk (closed_buffer old) (open_buffer p.0 p.1))
    (λ i. ((sym c.keep-cartridge.ensures) i, (sym c.in-Ok-memory_for.ensures.1) i)) (
      nothing_over new told.ok.1,
      (
        record { awake = refl; works = told.ok.0; nothing_pending = refl; read = refl },
        λ honest. opens disk one old new
            (λ known. c.known.ensures.shows known honest (seen_of_two disk old.disks)
            (read_now disk g.met.D.Disk.is_disk old.disks honest))
            (told.gives honest).0 (room (stay_honest disk old.disks new.disks told.disks honest)),
      ),
      advances_opened disk g.met.D.Disk.is_disk one old new told.disks told.ok.0 told.ok.1 told.gives told.any_moment
          told.ok.2,
      told.any_moment,
      told.each.stays,
    )

pub returns-in-Ok-memory_for-clause-catalog : goal.returns-in-Ok-memory_for-clause-catalog
returns-in-Ok-memory_for-clause-catalog g c =
    subst (λ (p : OpenCartridge _ × List Change). IsIndexOf c.in-Ok-memory_for.index (volume_of (open_state p.0 p.1)))
    (λ i. ((sym c.keep-cartridge.ensures) i, (sym c.in-Ok-memory_for.ensures.1) i))
    (subst (λ (k : OpenCartridge _). IsIndexOf c.in-Ok-memory_for.index (volume_made k.contents)) c.cartridge.ensures
    c.in-Ok-memory_for.ensures.0)

pub returns-in-Err-memory_for-clause-err : goal.returns-in-Err-memory_for-clause-err
returns-in-Err-memory_for-clause-err g c =
    let disk = g.D.Disk.state in
    let told = c.in-Ok.ensures in
    let laws = c.a_pair_gives_one_volume.ensures in
    let old = c.args.shelved in
    let opened = c.in-Ok.opening.cartridge in
    let stays = stays_closed disk g.met.D.Disk.is_disk old opened.disks told.disks told.any_moment
    (record { ours = laws.ours; whole = laws.whole; bad = laws.bad }) c.known.ensures.shows Cartridges.NoMemory (
      told.ok.2,
      λ honest. (
        λ never. laws.ours (seen_of_two disk old.disks) opened.contents (told.gives honest).0 never,
        (told.gives honest).1,
      ),
    ) in
    subst (λ (s : ClosedCartridge _). (Media.NoMemory ≢ Media.Device → IsSettledOn disk s)
    × WakesFrom (AreHonest disk old.disks) false (closed_state disk old) (Err Media.NoMemory) (closed_state disk s)
    × Advances (buffer_below disk) (closed_buffer old) [] (met_fault (Err Media.NoMemory)) (closed_buffer s)
    × LeavesAlone disk (closed_buffer old) (closed_buffer s)
    × LeavesEachAlone disk (closed_buffer old) (closed_buffer s)) (sym (c.into_shelved-shelved.ensures ∙ told.ok.3))
    (stays.0, stays.1, stays.2, told.any_moment, told.each.stays)

pub returns-in-Err-clause-err : goal.returns-in-Err-clause-err
returns-in-Err-clause-err g c =
    let disk = g.D.Disk.state in
    let told = c.in-Err.ensures in
    let laws = c.a_pair_gives_one_volume.ensures in
    let old = c.args.shelved in
    let new = c.in-Err.refused.shelved in
    let stays = stays_closed disk g.met.D.Disk.is_disk old new.disks told.disks told.any_moment
    (record { ours = laws.ours; whole = laws.whole; bad = laws.bad }) c.known.ensures.shows c.in-Err.refused.error
    told.refused in
    subst (λ (p : MediumError × ClosedCartridge _). (p.0 ≢ Media.Device → IsSettledOn disk p.1)
    × WakesFrom (AreHonest disk old.disks) false (closed_state disk old) (Err p.0) (closed_state disk p.1)
    × Advances (buffer_below disk) (closed_buffer old) [] (met_fault (Err p.0)) (closed_buffer p.1)
    × LeavesAlone disk (closed_buffer old) (closed_buffer p.1)
    × LeavesEachAlone disk (closed_buffer old) (closed_buffer p.1))
    (λ i. ((sym c.wake_error.ensures) i, (sym told.same) i))
    (stays.0, stays.1, stays.2, told.any_moment, told.each.stays)
