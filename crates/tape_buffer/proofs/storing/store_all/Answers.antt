use Rattle.std.proofs.Common.{List, [], arith, false, subst, sym}
use Rattle.vtl_base.specs.Below.{Advances}
use Rattle.tape_buffer.specs.Moves.{StoresBehind, buffer_below, stores_behind_nowhere}
use Rattle.volume_core.specs.declared.changes.Change.{Change}
use Rattle.cartridge.specs.Contents.{Contents, volume_made}
use Rattle.volume_core.specs.Volume.{AllApply}
use Rattle.tape_buffer.specs.Inner.Storing.{IsRoomyFor}
use Rattle.tape_buffer.specs.State.{open_buffer}
use Rattle.tape_buffer.proofs.AddingLemmas.{spelled_short}
use Rattle.tape_buffer.proofs.CoreLemmas.{advances_broken, advances_stored, behind_broken, behind_stored, rests, torn_all}
use Rattle.tape_buffer.proofs.LentLemmas.{roomy_broken, roomy_stored}
use Rattle.tape_buffer.proofs.MediumLemmas.{frames_stored, settles_stored, stores_stored}
use Rattle.tape_buffer.proofs.RoomLemmas.{listed_none, listed_some, one_frame_fits, reserved_still}
use Rattle.tape_buffer.proofs.storing.store_all.Goals as goal

pub returns-then-has_failed-clause-advances : goal.returns-then-has_failed-clause-advances
returns-then-has_failed-clause-advances g c =
    rests g.D.Disk.state g.met.D.Disk.is_disk
    (open_buffer c.args.cartridge.now c.args.changes.now)

pub returns-then-is_empty-clause-advances : goal.returns-then-is_empty-clause-advances
returns-then-is_empty-clause-advances g c =
    let state = g.D.Disk.state in
    let old = open_buffer c.args.cartridge.now c.args.changes.now in
    subst (λ (l : List Change). Advances (buffer_below state) old [] false (open_buffer c.args.cartridge.now l))
    (listed_none c.args.changes.now c.is_empty.result c.is_empty.ensures c.if-is_empty.true)
    (rests state g.met.D.Disk.is_disk old)

pub store-requires-clause-short : goal.store-requires-clause-short
store-requires-clause-short g c = omega (arith, spelled_short c.args.changes.now c.requires.few)

pub unreachable-requires-in-Err-SideFull : goal.unreachable-requires-in-Err-SideFull
unreachable-requires-in-Err-SideFull g c =
    omega (
      arith,
      (rw c.in-Err-SideFull.field-0-is at c.in-Err-SideFull.ensures.answer).1,
      one_frame_fits c.args.changes.now (listed_some c.args.changes.now c.is_empty.result c.is_empty.ensures
          c.if-is_empty.false),
      c.requires.held.fits,
    )

pub returns-in-Ok-clause-answer : goal.returns-in-Ok-clause-answer
returns-in-Ok-clause-answer g c =
    settles_stored c.args.cartridge.now c.store.new.self c.args.changes.now
    (listed_some c.args.changes.now c.is_empty.result c.is_empty.ensures c.if-is_empty.false) c.in-Ok.ensures.answer.0

pub returns-in-Ok-clause-frame : goal.returns-in-Ok-clause-frame
returns-in-Ok-clause-frame g c =
    frames_stored c.args.cartridge.now c.store.new.self c.args.changes.now
    (listed_some c.args.changes.now c.is_empty.result c.is_empty.ensures c.if-is_empty.false) c.in-Ok.ensures.answer.0

pub returns-in-Ok-clause-stores : goal.returns-in-Ok-clause-stores
returns-in-Ok-clause-stores g c =
    stores_stored c.args.cartridge.now c.store.new.self c.args.changes.now
    (listed_some c.args.changes.now c.is_empty.result c.is_empty.ensures c.if-is_empty.false) c.in-Ok.ensures.answer.0

pub returns-in-Ok-clause-advances : goal.returns-in-Ok-clause-advances
returns-in-Ok-clause-advances g c =
    let told = c.in-Ok.ensures in
    let works = told.answer.0.was_fine in
    advances_stored c.args.cartridge.now c.args.changes.now g.D.Disk.state g.met.D.Disk.is_disk c.store.new.self
    (c.known.ensures.at_rest works) works c.known.ensures.contents told.disks.keeps
    (λ honest. told.any_moment honest works) told.answer told.sure

pub returns-in-Err-Device-clause-advances : goal.returns-in-Err-Device-clause-advances
returns-in-Err-Device-clause-advances g c =
    let told = c.in-Err-Device.ensures in
    let answer = (rw c.in-Err-Device.field-0-is at told.answer) in
    let works = answer.0.was_fine in
    advances_broken c.args.cartridge.now c.args.changes.now g.D.Disk.state g.met.D.Disk.is_disk c.store.new.self
    (c.known.ensures.at_rest works) works c.known.ensures.contents told.disks.keeps
    (λ honest. told.any_moment honest works) answer.0 c.in-Err-Device.field-0-0 answer.1

pub returns-in-Err-Device-clause-held : goal.returns-in-Err-Device-clause-held
returns-in-Err-Device-clause-held g c =
    let broken = (rw c.in-Err-Device.field-0-is at c.in-Err-Device.ensures.answer).0 in
    let old = c.args.cartridge.now in
    let new = c.store.new.self in
    record {
      apply =
          subst (λ (contents : Contents). AllApply (volume_made contents) c.args.changes.now) (sym broken.contents)
          c.requires.held.apply;
      torn = torn_all new.torn c.args.changes.now broken.torn;
      fits = omega (arith, broken.room, c.requires.held.fits);
      reserved =
          reserved_still old.reserved new.reserved c.args.changes.now broken.reserved c.requires.held.reserved;
    }

pub returns-then-is_empty-clause-roomy : goal.returns-then-is_empty-clause-roomy
returns-then-is_empty-clause-roomy g c = λ left roomy.
    subst (λ (l : List Change). IsRoomyFor c.args.cartridge.now l left)
    (listed_none c.args.changes.now c.is_empty.result c.is_empty.ensures c.if-is_empty.true) roomy

pub returns-in-Ok-clause-roomy : goal.returns-in-Ok-clause-roomy
returns-in-Ok-clause-roomy g c = λ left roomy.
    roomy_stored c.args.cartridge.now c.store.new.self c.args.changes.now left roomy c.requires.held.apply
    (listed_some c.args.changes.now c.is_empty.result c.is_empty.ensures c.if-is_empty.false)
    c.in-Ok.ensures.answer.0

pub returns-in-Err-Device-clause-roomy : goal.returns-in-Err-Device-clause-roomy
returns-in-Err-Device-clause-roomy g c = λ left roomy.
    roomy_broken c.args.cartridge.now c.store.new.self c.args.changes.now left roomy
    (rw c.in-Err-Device.field-0-is at c.in-Err-Device.ensures.answer).0

pub returns-then-has_failed-clause-behind : goal.returns-then-has_failed-clause-behind
returns-then-has_failed-clause-behind g c =
    stores_behind_nowhere g.D.Disk.state g.met.D.Disk.is_disk (open_buffer c.args.cartridge.now c.args.changes.now)

pub returns-then-is_empty-clause-behind : goal.returns-then-is_empty-clause-behind
returns-then-is_empty-clause-behind g c =
    let state = g.D.Disk.state in
    let old = open_buffer c.args.cartridge.now c.args.changes.now in
    subst (λ (l : List Change). StoresBehind state old (open_buffer c.args.cartridge.now l))
    (listed_none c.args.changes.now c.is_empty.result c.is_empty.ensures c.if-is_empty.true)
    (stores_behind_nowhere state g.met.D.Disk.is_disk old)

pub returns-in-Ok-clause-behind : goal.returns-in-Ok-clause-behind
returns-in-Ok-clause-behind g c =
    let told = c.in-Ok.ensures in
    let works = told.answer.0.was_fine in
    behind_stored c.args.cartridge.now c.args.changes.now g.D.Disk.state g.met.D.Disk.is_disk c.store.new.self
    (c.known.ensures.at_rest works) works c.known.ensures.contents told.disks.keeps
    (λ honest. told.any_moment honest works) told.answer.0 told.sure

pub returns-in-Err-Device-clause-behind : goal.returns-in-Err-Device-clause-behind
returns-in-Err-Device-clause-behind g c =
    let told = c.in-Err-Device.ensures in
    let answer = (rw c.in-Err-Device.field-0-is at told.answer) in
    let works = answer.0.was_fine in
    behind_broken c.args.cartridge.now c.args.changes.now g.D.Disk.state g.met.D.Disk.is_disk c.store.new.self
    (c.known.ensures.at_rest works) works c.known.ensures.contents told.disks.keeps
    (λ honest. told.any_moment honest works) answer.0 c.in-Err-Device.field-0-0 answer.1
