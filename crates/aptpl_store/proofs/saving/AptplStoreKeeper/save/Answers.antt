use Rattle.std.proofs.Common.{◌≤◌, inl, refl, ap, arith}
use Rattle.gate_journal.specs.State.{OpenSide}
use Rattle.aptpl_store.specs.Kept.{store_kept}
use Rattle.aptpl_store.proofs.SavingLemmas.{broken_advances, broken_kept, broken_open, broken_stores, frame_of, is_body, opened, opens_saved, rests, saved_advances, saved_kept, saved_open, saved_stores, saved_value, spells_given, store_on}
use Rattle.aptpl_store.proofs.saving.AptplStoreKeeper.save.Goals as goal

pub append_frame-requires : goal.append_frame-requires
append_frame-requires g c =
    let state = c.args.reservations.now in
    let body = c.fill_body.new.frame.body in
    let spelled = spells_given c.fill_body.ensures.body c.state.ensures.state c.fill_body.ensures.savable in
    let is = is_body state body spelled.1 spelled.0 in (
      (is.0, omega (arith, is.1)),
      inl refl,
    )

pub invariant_of-self : goal.invariant_of-self
invariant_of-self g c =
    let old = c.self.inside.journal in
    let new = c.append_frame.new.self in
    let notes = c.self.inside.noted.notes in
    let state = c.args.reservations.now in
    let body = c.fill_body.new.frame.body in
    let room : 580 ≤ c.append_frame.new.frame.room =
    omega (arith, c.self.invariant.0.body, c.fill_body.ensures.room, c.append_frame.ensures.frame.0) in
    let spelled = spells_given c.fill_body.ensures.body c.state.ensures.state c.fill_body.ensures.savable in
    let said = c.in-Ok.ensures in (
      saved_open g.D.Disk.state g.met.D.Disk.is_disk old new _ _ notes c.self.invariant.0 c.self.invariant.1
          room state spelled.1 body spelled.0 said.disk said.front said.answer.0.was_fine
          (λ h. said.any_moment h said.answer.0.was_fine)
          said.answer.0 said.bodies (λ h. (said.sure h).0) c.with_state.result.notes c.with_state.ensures,
      saved_stores g.D.Disk.state g.met.D.Disk.is_disk old new _ _ notes c.self.invariant.0 c.self.invariant.1
          room state spelled.1 body spelled.0 said.disk said.front said.answer.0.was_fine
          (λ h. said.any_moment h said.answer.0.was_fine)
          said.answer.0 said.bodies (λ h. (said.sure h).0) c.with_state.result.notes c.with_state.ensures,
    )

pub invariant_of-self-in-Err-Device : goal.invariant_of-self-in-Err-Device
invariant_of-self-in-Err-Device g c =
    let old = c.self.inside.journal in
    let new = c.append_frame.new.self in
    let notes = c.self.inside.noted.notes in
    let state = c.args.reservations.now in
    let body = c.fill_body.new.frame.body in
    let room : 580 ≤ c.append_frame.new.frame.room =
    omega (arith, c.self.invariant.0.body, c.fill_body.ensures.room, c.append_frame.ensures.frame.0) in
    let spelled = spells_given c.fill_body.ensures.body c.state.ensures.state c.fill_body.ensures.savable in
    let said = c.in-Err-Device.ensures in
    let broke = rw c.in-Err-Device.field-0-is at said.answer in (
      broken_open g.D.Disk.state g.met.D.Disk.is_disk old new _ _ notes c.self.invariant.0 c.self.invariant.1
          room state spelled.1 body spelled.0 said.disk said.front broke.0.was_fine
          (λ h. said.any_moment h broke.0.was_fine)
          broke.0 said.bodies c.with_torn_state.result.notes c.with_torn_state.ensures,
      broken_stores g.D.Disk.state g.met.D.Disk.is_disk old new _ _ notes c.self.invariant.0 c.self.invariant.1
          room state spelled.1 body spelled.0 said.disk said.front broke.0.was_fine
          (λ h. said.any_moment h broke.0.was_fine)
          broke.0 said.bodies c.with_torn_state.result.notes c.with_torn_state.ensures,
    )

pub returns-in-Ok-clause-answer : goal.returns-in-Ok-clause-answer
returns-in-Ok-clause-answer g c =
    rw (← c.self.view_is) (
    let old = c.self.inside.journal in
    let new = c.append_frame.new.self in
    let notes = c.self.inside.noted.notes in
    let state = c.args.reservations.now in
    let body = c.fill_body.new.frame.body in
    let room : 580 ≤ c.append_frame.new.frame.room =
    omega (arith, c.self.invariant.0.body, c.fill_body.ensures.room, c.append_frame.ensures.frame.0) in
    let spelled = spells_given c.fill_body.ensures.body c.state.ensures.state c.fill_body.ensures.savable in
    let said = c.in-Ok.ensures in (
      said.answer.0.was_fine,
      saved_kept g.D.Disk.state g.met.D.Disk.is_disk old new _ _ notes c.self.invariant.0 c.self.invariant.1
          room state spelled.1 body spelled.0 said.disk said.front said.answer.0.was_fine
          (λ h. said.any_moment h said.answer.0.was_fine)
          said.answer.0 said.bodies (λ h. (said.sure h).0) c.with_state.result.notes c.with_state.ensures,
    ))

pub returns-in-Ok-clause-advances : goal.returns-in-Ok-clause-advances
returns-in-Ok-clause-advances g c =
    rw (← c.self.view_is) (
    let old = c.self.inside.journal in
    let new = c.append_frame.new.self in
    let notes = c.self.inside.noted.notes in
    let state = c.args.reservations.now in
    let body = c.fill_body.new.frame.body in
    let room : 580 ≤ c.append_frame.new.frame.room =
    omega (arith, c.self.invariant.0.body, c.fill_body.ensures.room, c.append_frame.ensures.frame.0) in
    let spelled = spells_given c.fill_body.ensures.body c.state.ensures.state c.fill_body.ensures.savable in
    let said = c.in-Ok.ensures in
    saved_advances g.D.Disk.state g.met.D.Disk.is_disk old new _ _ notes c.self.invariant.0 c.self.invariant.1
    room state spelled.1 body spelled.0 said.disk said.front said.answer.0.was_fine
    (λ h. said.any_moment h said.answer.0.was_fine)
    said.answer.0 said.bodies (λ h. (said.sure h).0) c.with_state.result.notes
    c.with_state.ensures said.answer.1)

pub returns-in-Ok-clause-saves : goal.returns-in-Ok-clause-saves
returns-in-Ok-clause-saves g c =
    rw (← c.self.view_is) (
    let old = c.self.inside.journal in
    let new = c.append_frame.new.self in
    let notes = c.self.inside.noted.notes in
    let state = c.args.reservations.now in
    let body = c.fill_body.new.frame.body in
    let room : 580 ≤ c.append_frame.new.frame.room =
    omega (arith, c.self.invariant.0.body, c.fill_body.ensures.room, c.append_frame.ensures.frame.0) in
    let spelled = spells_given c.fill_body.ensures.body c.state.ensures.state c.fill_body.ensures.savable in
    let said = c.in-Ok.ensures in
    saved_value g.D.Disk.state g.met.D.Disk.is_disk old new _ _ notes c.self.invariant.0 c.self.invariant.1
    room state spelled.1 body spelled.0 said.disk said.front said.answer.0.was_fine
    (λ h. said.any_moment h said.answer.0.was_fine)
    said.answer.0 said.bodies (λ h. (said.sure h).0) c.with_state.result.notes c.with_state.ensures)

pub returns-in-Ok-clause-sure : goal.returns-in-Ok-clause-sure
returns-in-Ok-clause-sure g c =
    rw (← c.self.view_is) (
    let old = c.self.inside.journal in
    let new = c.append_frame.new.self in
    let notes = c.self.inside.noted.notes in
    let state = c.args.reservations.now in
    let body = c.fill_body.new.frame.body in
    let room : 580 ≤ c.append_frame.new.frame.room =
    omega (arith, c.self.invariant.0.body, c.fill_body.ensures.room, c.append_frame.ensures.frame.0) in
    let spelled = spells_given c.fill_body.ensures.body c.state.ensures.state c.fill_body.ensures.savable in
    let said = c.in-Ok.ensures in
    opens_saved g.D.Disk.state g.met.D.Disk.is_disk old new _ _ notes c.self.invariant.0 c.self.invariant.1
    room state spelled.1 body spelled.0 said.disk said.front said.answer.0.was_fine
    (λ h. said.any_moment h said.answer.0.was_fine)
    said.answer.0 said.bodies (λ h. (said.sure h).0) c.with_state.result.notes c.with_state.ensures)

pub returns-in-Ok-clause-any_moment : goal.returns-in-Ok-clause-any_moment
returns-in-Ok-clause-any_moment g c =
    rw (← c.self.view_is) (
    let old = c.self.inside.journal in
    let new = c.append_frame.new.self in
    let notes = c.self.inside.noted.notes in
    let state = c.args.reservations.now in
    let body = c.fill_body.new.frame.body in
    let room : 580 ≤ c.append_frame.new.frame.room =
    omega (arith, c.self.invariant.0.body, c.fill_body.ensures.room, c.append_frame.ensures.frame.0) in
    let spelled = spells_given c.fill_body.ensures.body c.state.ensures.state c.fill_body.ensures.savable in
    let said = c.in-Ok.ensures in
    (λ h fine. opened g.D.Disk.state g.met.D.Disk.is_disk old new _ _ notes c.self.invariant.0 c.self.invariant.1
    room state spelled.1 body spelled.0 said.disk said.front said.answer.0.was_fine
    (λ h. said.any_moment h said.answer.0.was_fine) h))

pub returns-in-Err-Device-clause-answer : goal.returns-in-Err-Device-clause-answer
returns-in-Err-Device-clause-answer g c =
    rw (← c.self.view_is) (
    let old = c.self.inside.journal in
    let new = c.append_frame.new.self in
    let notes = c.self.inside.noted.notes in
    let state = c.args.reservations.now in
    let body = c.fill_body.new.frame.body in
    let room : 580 ≤ c.append_frame.new.frame.room =
    omega (arith, c.self.invariant.0.body, c.fill_body.ensures.room, c.append_frame.ensures.frame.0) in
    let spelled = spells_given c.fill_body.ensures.body c.state.ensures.state c.fill_body.ensures.savable in
    let said = c.in-Err-Device.ensures in
    let broke = rw c.in-Err-Device.field-0-is at said.answer in (
      broke.0.was_fine,
      broken_kept g.D.Disk.state g.met.D.Disk.is_disk old new _ _ notes c.self.invariant.0 c.self.invariant.1
          room state spelled.1 body spelled.0 said.disk said.front broke.0.was_fine
          (λ h. said.any_moment h broke.0.was_fine)
          broke.0 said.bodies c.with_torn_state.result.notes c.with_torn_state.ensures,
    ))

pub returns-in-Err-Device-clause-advances : goal.returns-in-Err-Device-clause-advances
returns-in-Err-Device-clause-advances g c =
    rw (← c.self.view_is) (
    let old = c.self.inside.journal in
    let new = c.append_frame.new.self in
    let notes = c.self.inside.noted.notes in
    let state = c.args.reservations.now in
    let body = c.fill_body.new.frame.body in
    let room : 580 ≤ c.append_frame.new.frame.room =
    omega (arith, c.self.invariant.0.body, c.fill_body.ensures.room, c.append_frame.ensures.frame.0) in
    let spelled = spells_given c.fill_body.ensures.body c.state.ensures.state c.fill_body.ensures.savable in
    let said = c.in-Err-Device.ensures in
    let broke = rw c.in-Err-Device.field-0-is at said.answer in
    broken_advances g.D.Disk.state g.met.D.Disk.is_disk old new _ _ notes c.self.invariant.0 c.self.invariant.1
    room state spelled.1 body spelled.0 said.disk said.front broke.0.was_fine
    (λ h. said.any_moment h broke.0.was_fine)
    broke.0 said.bodies c.with_torn_state.result.notes c.with_torn_state.ensures broke.1.cause)

pub returns-in-Err-Device-clause-any_moment : goal.returns-in-Err-Device-clause-any_moment
returns-in-Err-Device-clause-any_moment g c =
    rw (← c.self.view_is) (
    let old = c.self.inside.journal in
    let new = c.append_frame.new.self in
    let notes = c.self.inside.noted.notes in
    let state = c.args.reservations.now in
    let body = c.fill_body.new.frame.body in
    let room : 580 ≤ c.append_frame.new.frame.room =
    omega (arith, c.self.invariant.0.body, c.fill_body.ensures.room, c.append_frame.ensures.frame.0) in
    let spelled = spells_given c.fill_body.ensures.body c.state.ensures.state c.fill_body.ensures.savable in
    let said = c.in-Err-Device.ensures in
    let broke = rw c.in-Err-Device.field-0-is at said.answer in
    (λ h fine. opened g.D.Disk.state g.met.D.Disk.is_disk old new _ _ notes c.self.invariant.0 c.self.invariant.1
    room state spelled.1 body spelled.0 said.disk said.front broke.0.was_fine
    (λ h. said.any_moment h broke.0.was_fine) h))

pub returns-in-Err-NoMemory-clause-answer : goal.returns-in-Err-NoMemory-clause-answer
returns-in-Err-NoMemory-clause-answer g c =
    rw (← c.self.view_is) (
    let notes = c.self.inside.noted.notes in
    let state = c.args.reservations.now in
    let body = c.fill_body.new.frame.body in
    let spelled = spells_given c.fill_body.ensures.body c.state.ensures.state c.fill_body.ensures.savable in
    let said = c.in-Err-NoMemory.ensures in
    let why = rw c.in-Err-NoMemory.field-0-is at said.answer in (
      why.0,
      λ full. omega (arith, full, frame_of state body spelled.1 spelled.0, why.1),
      ap (λ (side : OpenSide g.row.D.Denot). store_kept (store_on side notes)) why.3,
    ))

pub returns-in-Err-NoMemory-clause-advances : goal.returns-in-Err-NoMemory-clause-advances
returns-in-Err-NoMemory-clause-advances g c =
    rw (← c.self.view_is) (
    let old = c.self.inside.journal in
    let new = c.append_frame.new.self in
    let notes = c.self.inside.noted.notes in
    let said = c.in-Err-NoMemory.ensures in
    let why = rw c.in-Err-NoMemory.field-0-is at said.answer in
    rests g.D.Disk.state g.met.D.Disk.is_disk old new notes why.3)

pub returns-in-Err-NoMemory-clause-any_moment : goal.returns-in-Err-NoMemory-clause-any_moment
returns-in-Err-NoMemory-clause-any_moment g c =
    rw (← c.self.view_is) (
    let old = c.self.inside.journal in
    let new = c.append_frame.new.self in
    let notes = c.self.inside.noted.notes in
    let state = c.args.reservations.now in
    let body = c.fill_body.new.frame.body in
    let room : 580 ≤ c.append_frame.new.frame.room =
    omega (arith, c.self.invariant.0.body, c.fill_body.ensures.room, c.append_frame.ensures.frame.0) in
    let spelled = spells_given c.fill_body.ensures.body c.state.ensures.state c.fill_body.ensures.savable in
    let said = c.in-Err-NoMemory.ensures in
    let why = rw c.in-Err-NoMemory.field-0-is at said.answer in
    (λ h fine. opened g.D.Disk.state g.met.D.Disk.is_disk old new _ _ notes c.self.invariant.0 c.self.invariant.1
    room state spelled.1 body spelled.0 said.disk said.front why.0
    (λ h. said.any_moment h why.0) h))

pub returns-in-Err-SideFull-clause-answer : goal.returns-in-Err-SideFull-clause-answer
returns-in-Err-SideFull-clause-answer g c =
    rw (← c.self.view_is) (
    let notes = c.self.inside.noted.notes in
    let state = c.args.reservations.now in
    let body = c.fill_body.new.frame.body in
    let spelled = spells_given c.fill_body.ensures.body c.state.ensures.state c.fill_body.ensures.savable in
    let said = c.in-Err-SideFull.ensures in
    let why = rw c.in-Err-SideFull.field-0-is at said.answer in (
      why.0,
      omega (arith, frame_of state body spelled.1 spelled.0, why.1),
      ap (λ (side : OpenSide g.row.D.Denot). store_kept (store_on side notes)) why.2,
    ))

pub returns-in-Err-SideFull-clause-advances : goal.returns-in-Err-SideFull-clause-advances
returns-in-Err-SideFull-clause-advances g c =
    rw (← c.self.view_is) (
    let old = c.self.inside.journal in
    let new = c.append_frame.new.self in
    let notes = c.self.inside.noted.notes in
    let said = c.in-Err-SideFull.ensures in
    let why = rw c.in-Err-SideFull.field-0-is at said.answer in
    rests g.D.Disk.state g.met.D.Disk.is_disk old new notes why.2)

pub returns-in-Err-SideFull-clause-any_moment : goal.returns-in-Err-SideFull-clause-any_moment
returns-in-Err-SideFull-clause-any_moment g c =
    rw (← c.self.view_is) (
    let old = c.self.inside.journal in
    let new = c.append_frame.new.self in
    let notes = c.self.inside.noted.notes in
    let state = c.args.reservations.now in
    let body = c.fill_body.new.frame.body in
    let room : 580 ≤ c.append_frame.new.frame.room =
    omega (arith, c.self.invariant.0.body, c.fill_body.ensures.room, c.append_frame.ensures.frame.0) in
    let spelled = spells_given c.fill_body.ensures.body c.state.ensures.state c.fill_body.ensures.savable in
    let said = c.in-Err-SideFull.ensures in
    let why = rw c.in-Err-SideFull.field-0-is at said.answer in
    (λ h fine. opened g.D.Disk.state g.met.D.Disk.is_disk old new _ _ notes c.self.invariant.0 c.self.invariant.1
    room state spelled.1 body spelled.0 said.disk said.front why.0
    (λ h. said.any_moment h why.0) h))

pub returns-in-Err-Failed-clause-advances : goal.returns-in-Err-Failed-clause-advances
returns-in-Err-Failed-clause-advances g c =
    rw (← c.self.view_is) (
    let old = c.self.inside.journal in
    let new = c.append_frame.new.self in
    let notes = c.self.inside.noted.notes in
    let said = c.in-Err-Failed.ensures in
    let why = rw c.in-Err-Failed.field-0-is at said.answer in
    rests g.D.Disk.state g.met.D.Disk.is_disk old new notes why.1)
