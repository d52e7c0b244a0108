use Rattle.std.proofs.Common.{◌≡◌, inl, inr, ℕ, List, [], ◌∷◌, length, false, ap, sym, subst, ◌∙◌, arith}
use Rattle.tape_disk.specs.TwoDisks.{TwoLeave, two_rest_still}
use Rattle.gate_journal.specs.Answers.{IsFault}
use Rattle.std.specs.Prelude.{map}
use Rattle.gate_journal.specs.Followed.{followed}
use Rattle.gate_journal.specs.Spelled.{SpelledBody}
use Rattle.gate_journal.specs.State.{room_behind}
use Rattle.change_records.specs.Records.{spell_all, spell_change}
use Rattle.cartridge.specs.Contents.{ShowsContents}
use Rattle.cartridge.specs.Disks.{disks_by}
use Rattle.cartridge.specs.Notes.{noted_as}
use Rattle.cartridge.proofs.DisksLemmas.{fault_by, none_by}
use Rattle.cartridge.proofs.RecordLemmas.{parts_spell}
use Rattle.cartridge.proofs.ShownLemmas.{sure_now}
use Rattle.cartridge.proofs.StoreLemmas.{all_records, broken_answer, broken_open, broken_own, broken_stores, counted_more, last_fits, last_sized, lies_before, room_made, shown_moments, stored_answer, stored_open, stored_own, stored_stores, stored_sure}
use Rattle.cartridge.proofs.StoringLemmas.{grown_entries, lacks_shown, same_open, same_own, same_stores, same_view, some_body}
use Rattle.cartridge.proofs.cartridges.Cartridge.store.Goals as goal

pub invariant_of-self : goal.invariant_of-self
invariant_of-self g c =
    let i = c.self.inside in
    let notes = i.noted.notes in
    let j = i.journal in
    let k = c.make_room.new.journal in
    let index = c.make_room.new.index in
    let same = c.make_room.ensures.side in
    let grown = c.make_room.ensures.grown in (
      same_open j k same i.index index notes grown c.self.invariant.0,
      same_own j k same i.index index notes i.which c.self.invariant.1,
      same_stores j k same i.index index notes i.which g.D.Disk.state i.spare c.self.invariant.2,
    )

pub returns-then-from-room-clause-any_moment : goal.returns-then-from-room-clause-any_moment
returns-then-from-room-clause-any_moment g c = rw (← c.self.view_is) (λ h fine.
    let i = c.self.inside in
    two_rest_still g.D.Disk.state (disks_by i.which i.journal.disk i.spare) _ (λ images left.
    inl (sure_now g.D.Disk.state i.which i.journal i.spare i.index i.noted.notes c.self.invariant.0
    (c.self.invariant.2 h) fine images left)))

pub returns-in_default-clause-any_moment : goal.returns-in_default-clause-any_moment
returns-in_default-clause-any_moment g c = rw (← c.self.view_is) (λ h fine.
    let i = c.self.inside in
    subst (λ (d : g.row.D.Denot). TwoLeave g.D.Disk.state (disks_by i.which i.journal.disk i.spare)
    (disks_by i.which d i.spare)
    (ShowsContents (noted_as i.which i.journal.front.head.copied i.noted.notes) (c.args.changes.now ∷ [])))
    (sym c.make_room.ensures.side.disk)
    (two_rest_still g.D.Disk.state (disks_by i.which i.journal.disk i.spare) _ (λ images left.
    inl (sure_now g.D.Disk.state i.which i.journal i.spare i.index i.noted.notes c.self.invariant.0
    (c.self.invariant.2 h) fine images left))))

pub returns-in_default-clause-answer : goal.returns-in_default-clause-answer
returns-in_default-clause-answer g c =
    rw (← c.self.view_is) (
    let i = c.self.inside in
    let notes = i.noted.notes in
    let j = i.journal in
    let k = c.make_room.new.journal in
    let index = c.make_room.new.index in
    let same = c.make_room.ensures.side in
    let grown = c.make_room.ensures.grown in
    let fine : j.failed ≡ false = sym c.has_failed.ensures ∙ c.if-has_failed.false in
    record {
      was_fine = fine;
      fitted = omega (arith, c.if-from-room.false, c.from.ensures, c.room.ensures, c.size_of_body-size.ensures);
      lacked =
          lacks_shown i.index j.reserved_extents _ _ c.args.changes.now c.size_of_body-size.ensures
          c.in_default.ensures.err;
      same = same_view j k same i.which i.spare notes _;
      reserved = record {
        body = c.make_room.ensures.body;
        frames = same.reserved;
        entries = grown_entries i.index index grown;
      };
    })

pub of-parts-requires-clause-records : goal.of-parts-requires-clause-records
of-parts-requires-clause-records g c =
    let old = c.self.inside in
    let mid = c.make_room.new in
    let made = c.make_room.ensures in
    let apply = rw (← c.self.view_is) at c.requires.apply in
    all_records old.journal mid.journal made.side old.index mid.index made.grown made.few old.noted.notes
    c.self.invariant.0 c.args.changes.now apply

pub append_frame-requires : goal.append_frame-requires
append_frame-requires g c =
    let changes = c.args.changes.now in
    let body = followed c.clear.new.self.body (map spell_change c.of-parts.result) in
    let body_is : body ≡ spell_all changes =
    parts_spell c.clear.new.self _ c.of-parts.result c.args.changes.now c.clear.ensures c.of-parts.ensures in (
      (
        omega (arith, ap (λ (l : List ℕ). length l) body_is, some_body changes c.requires.some),
        omega (arith, ap (λ (l : List ℕ). length l) body_is, c.requires.short),
      ),
      inr (omega (
        arith,
        ap (λ (l : List ℕ). length l) body_is,
        c.size_of_body-size.ensures,
        c.in-Ok.ensures.ok.0,
        ap (λ (f : SpelledBody). f.room) c.clear.ensures,
      )),
    )

pub place_frame-requires-clause-records : goal.place_frame-requires-clause-records
place_frame-requires-clause-records g c =
    let old = c.self.inside in
    let mid = c.make_room.new in
    let made = c.make_room.ensures in
    let apply = rw (← c.self.view_is) at c.requires.apply in
    all_records old.journal mid.journal made.side old.index mid.index made.grown made.few old.noted.notes
    c.self.invariant.0 c.args.changes.now apply

pub place_frame-requires-clause-room : goal.place_frame-requires-clause-room
place_frame-requires-clause-room g c =
    let old = c.self.inside in
    let mid = c.make_room.new in
    let made = c.make_room.ensures in
    let apply = rw (← c.self.view_is) at c.requires.apply in
    room_made old.journal mid.journal made.side old.index mid.index made.grown made.few old.noted.notes
    c.self.invariant.0 c.args.changes.now apply c.in-Ok.ensures.ok.2

pub place_frame-requires-clause-counted : goal.place_frame-requires-clause-counted
place_frame-requires-clause-counted g c =
    let old = c.self.inside in
    let mid = c.make_room.new in
    let made = c.make_room.ensures in
    let apply = rw (← c.self.view_is) at c.requires.apply in
    let body = followed c.clear.new.self.body (map spell_change c.of-parts.result) in
    let body_is : body ≡ spell_all c.args.changes.now =
    parts_spell c.clear.new.self _ c.of-parts.result c.args.changes.now c.clear.ensures c.of-parts.ensures in
    counted_more old.journal mid.journal made.side old.index mid.index made.grown made.few old.noted.notes
    c.self.invariant.0 c.args.changes.now apply c.append_frame.new.self body body_is
    c.in-Ok-append_frame.ensures.answer.0

pub place_frame-requires-clause-sized : goal.place_frame-requires-clause-sized
place_frame-requires-clause-sized g c =
    let old = c.self.inside in
    let mid = c.make_room.new in
    let made = c.make_room.ensures in
    let apply = rw (← c.self.view_is) at c.requires.apply in
    let body = followed c.clear.new.self.body (map spell_change c.of-parts.result) in
    let body_is : body ≡ spell_all c.args.changes.now =
    parts_spell c.clear.new.self _ c.of-parts.result c.args.changes.now c.clear.ensures c.of-parts.ensures in
    last_sized old.journal mid.journal made.side old.index mid.index made.grown made.few old.noted.notes
    c.self.invariant.0 c.args.changes.now apply c.append_frame.new.self body body_is
    c.in-Ok-append_frame.ensures.answer.0

pub place_frame-requires-clause-fits : goal.place_frame-requires-clause-fits
place_frame-requires-clause-fits g c =
    let old = c.self.inside in
    let mid = c.make_room.new in
    let made = c.make_room.ensures in
    let apply = rw (← c.self.view_is) at c.requires.apply in
    let body = followed c.clear.new.self.body (map spell_change c.of-parts.result) in
    let body_is : body ≡ spell_all c.args.changes.now =
    parts_spell c.clear.new.self _ c.of-parts.result c.args.changes.now c.clear.ensures c.of-parts.ensures in
    last_fits old.journal mid.journal made.side old.index mid.index made.grown made.few old.noted.notes
    c.self.invariant.0 c.args.changes.now apply c.append_frame.new.self body body_is
    c.in-Ok-append_frame.ensures.answer.0

pub place_frame-requires-clause-lies : goal.place_frame-requires-clause-lies
place_frame-requires-clause-lies g c =
    let old = c.self.inside in
    let mid = c.make_room.new in
    let made = c.make_room.ensures in
    let apply = rw (← c.self.view_is) at c.requires.apply in
    let body = followed c.clear.new.self.body (map spell_change c.of-parts.result) in
    let body_is : body ≡ spell_all c.args.changes.now =
    parts_spell c.clear.new.self _ c.of-parts.result c.args.changes.now c.clear.ensures c.of-parts.ensures in
    lies_before old.journal mid.journal made.side old.index mid.index made.grown made.few old.noted.notes
    c.self.invariant.0 c.args.changes.now apply c.append_frame.new.self body body_is
    c.in-Ok-append_frame.ensures.answer.0

pub invariant_of-self-in-Ok-append_frame : goal.invariant_of-self-in-Ok-append_frame
invariant_of-self-in-Ok-append_frame g c =
    let old = c.self.inside in
    let mid = c.make_room.new in
    let made = c.make_room.ensures in
    let apply = rw (← c.self.view_is) at c.requires.apply in
    let body = followed c.clear.new.self.body (map spell_change c.of-parts.result) in
    let body_is : body ≡ spell_all c.args.changes.now =
    parts_spell c.clear.new.self _ c.of-parts.result c.args.changes.now c.clear.ensures c.of-parts.ensures in
    let said = c.in-Ok-append_frame.ensures in (
      stored_open old.journal mid.journal made.side old.index mid.index made.grown made.few old.noted.notes
          c.self.invariant.0 c.args.changes.now apply c.append_frame.new.self body body_is said.answer.0
          c.with_frame.result.notes c.with_frame.ensures c.append_frame.ensures.front
          c.place_frame.new.index c.place_frame.ensures.lies,
      stored_own old.journal mid.journal made.side old.index mid.index made.grown made.few old.noted.notes
          c.self.invariant.0 c.args.changes.now apply c.append_frame.new.self body body_is said.answer.0
          c.with_frame.result.notes c.with_frame.ensures c.append_frame.ensures.front
          old.which old.spare c.self.invariant.1,
      stored_stores old.journal mid.journal made.side old.index mid.index made.grown made.few old.noted.notes
          c.self.invariant.0 c.args.changes.now apply c.append_frame.new.self body body_is said.answer.0
          c.with_frame.result.notes c.with_frame.ensures c.append_frame.ensures.front
          old.which old.spare c.self.invariant.1 g.D.Disk.state c.self.invariant.2 said.bodies (λ h. (said.sure h).0)
          c.append_frame.ensures.disk,
    )

pub invariant_of-self-in-Err-Device : goal.invariant_of-self-in-Err-Device
invariant_of-self-in-Err-Device g c =
    let old = c.self.inside in
    let mid = c.make_room.new in
    let made = c.make_room.ensures in
    let apply = rw (← c.self.view_is) at c.requires.apply in
    let body = followed c.clear.new.self.body (map spell_change c.of-parts.result) in
    let body_is : body ≡ spell_all c.args.changes.now =
    parts_spell c.clear.new.self _ c.of-parts.result c.args.changes.now c.clear.ensures c.of-parts.ensures in
    let said = c.in-Err-Device.ensures in
    let answer = rw c.in-Err-Device.field-0-is at said.answer in (
      broken_open old.journal mid.journal made.side old.index mid.index made.grown made.few old.noted.notes
          c.self.invariant.0 c.args.changes.now apply c.append_frame.new.self body body_is answer.0
          c.with_torn.result.notes c.with_torn.ensures c.append_frame.ensures.front,
      broken_own old.journal mid.journal made.side old.index mid.index made.grown made.few old.noted.notes
          c.self.invariant.0 c.args.changes.now apply c.append_frame.new.self body body_is answer.0
          c.with_torn.result.notes c.with_torn.ensures c.append_frame.ensures.front
          old.which old.spare c.self.invariant.1,
      broken_stores old.journal mid.journal made.side old.index mid.index made.grown made.few old.noted.notes
          c.self.invariant.0 c.args.changes.now apply c.append_frame.new.self body body_is answer.0
          c.with_torn.result.notes c.with_torn.ensures c.append_frame.ensures.front
          old.which old.spare c.self.invariant.1 g.D.Disk.state c.self.invariant.2
          (g.met.D.Disk.is_disk c.append_frame.new.self.disk) c.append_frame.ensures.disk said.bodies
          said.any_moment,
    )

pub returns-in-Ok-append_frame-clause-answer : goal.returns-in-Ok-append_frame-clause-answer
returns-in-Ok-append_frame-clause-answer g c =
    rw (← c.self.view_is) (
    let old = c.self.inside in
    let mid = c.make_room.new in
    let made = c.make_room.ensures in
    let apply = rw (← c.self.view_is) at c.requires.apply in
    let body = followed c.clear.new.self.body (map spell_change c.of-parts.result) in
    let body_is : body ≡ spell_all c.args.changes.now =
    parts_spell c.clear.new.self _ c.of-parts.result c.args.changes.now c.clear.ensures c.of-parts.ensures in
    let said = c.in-Ok-append_frame.ensures in (
      stored_answer old.journal mid.journal made.side old.index mid.index made.grown made.few old.noted.notes
          c.self.invariant.0 c.args.changes.now apply c.append_frame.new.self body body_is
          said.answer.0 c.with_frame.result.notes c.with_frame.ensures
          c.append_frame.ensures.front old.which old.spare c.place_frame.new.index _ _
          (omega (arith, made.body, ap (λ (f : SpelledBody). f.room) c.clear.ensures, c.append_frame.ensures.frame.0.0))
          c.place_frame.ensures.reserved,
      none_by g.D.Disk.state old.which old.journal.disk old.spare c.append_frame.new.self.disk
          (said.answer.1 ∙ ap (λ d. (g.D.Disk.state d).failures) made.side.disk),
    ))

pub returns-in-Ok-append_frame-clause-sure : goal.returns-in-Ok-append_frame-clause-sure
returns-in-Ok-append_frame-clause-sure g c =
    rw (← c.self.view_is) (
    let old = c.self.inside in
    let mid = c.make_room.new in
    let made = c.make_room.ensures in
    let apply = rw (← c.self.view_is) at c.requires.apply in
    let body = followed c.clear.new.self.body (map spell_change c.of-parts.result) in
    let body_is : body ≡ spell_all c.args.changes.now =
    parts_spell c.clear.new.self _ c.of-parts.result c.args.changes.now c.clear.ensures c.of-parts.ensures in
    let said = c.in-Ok-append_frame.ensures in
    stored_sure old.journal mid.journal made.side old.index mid.index made.grown made.few old.noted.notes
    c.self.invariant.0 c.args.changes.now apply c.append_frame.new.self body body_is
    said.answer.0 c.with_frame.result.notes c.with_frame.ensures
    c.append_frame.ensures.front old.which old.spare c.self.invariant.1 g.D.Disk.state c.self.invariant.2 said.bodies
    (λ h. (said.sure h).0))

pub returns-in-Ok-append_frame-clause-any_moment : goal.returns-in-Ok-append_frame-clause-any_moment
returns-in-Ok-append_frame-clause-any_moment g c =
    rw (← c.self.view_is) (
    let old = c.self.inside in
    let mid = c.make_room.new in
    let made = c.make_room.ensures in
    let apply = rw (← c.self.view_is) at c.requires.apply in
    let body = followed c.clear.new.self.body (map spell_change c.of-parts.result) in
    let body_is : body ≡ spell_all c.args.changes.now =
    parts_spell c.clear.new.self _ c.of-parts.result c.args.changes.now c.clear.ensures c.of-parts.ensures in
    shown_moments old.journal mid.journal made.side old.index mid.index made.grown made.few old.noted.notes
    c.self.invariant.0 c.args.changes.now apply c.append_frame.new.self body body_is old.which old.spare
    c.self.invariant.1 g.D.Disk.state c.self.invariant.2 c.in-Ok-append_frame.ensures.any_moment)

pub returns-in-Err-Device-clause-any_moment : goal.returns-in-Err-Device-clause-any_moment
returns-in-Err-Device-clause-any_moment g c =
    rw (← c.self.view_is) (
    let old = c.self.inside in
    let mid = c.make_room.new in
    let made = c.make_room.ensures in
    let apply = rw (← c.self.view_is) at c.requires.apply in
    let body = followed c.clear.new.self.body (map spell_change c.of-parts.result) in
    let body_is : body ≡ spell_all c.args.changes.now =
    parts_spell c.clear.new.self _ c.of-parts.result c.args.changes.now c.clear.ensures c.of-parts.ensures in
    shown_moments old.journal mid.journal made.side old.index mid.index made.grown made.few old.noted.notes
    c.self.invariant.0 c.args.changes.now apply c.append_frame.new.self body body_is old.which old.spare
    c.self.invariant.1 g.D.Disk.state c.self.invariant.2 c.in-Err-Device.ensures.any_moment)

pub returns-in-Err-Device-clause-answer : goal.returns-in-Err-Device-clause-answer
returns-in-Err-Device-clause-answer g c =
    rw (← c.self.view_is) (
    let old = c.self.inside in
    let mid = c.make_room.new in
    let made = c.make_room.ensures in
    let apply = rw (← c.self.view_is) at c.requires.apply in
    let body = followed c.clear.new.self.body (map spell_change c.of-parts.result) in
    let body_is : body ≡ spell_all c.args.changes.now =
    parts_spell c.clear.new.self _ c.of-parts.result c.args.changes.now c.clear.ensures c.of-parts.ensures in
    let said = c.in-Err-Device.ensures in
    let answer = rw c.in-Err-Device.field-0-is at said.answer in (
      broken_answer old.journal mid.journal made.side old.index mid.index made.grown made.few old.noted.notes
          c.self.invariant.0 c.args.changes.now apply c.append_frame.new.self body body_is
          answer.0 c.with_torn.result.notes c.with_torn.ensures c.append_frame.ensures.front
          old.which old.spare _ _
          (omega (
            arith,
            made.body,
            ap (λ (f : SpelledBody). f.room) c.clear.ensures,
            c.append_frame.ensures.frame.0.0,
          )),
      fault_by g.D.Disk.state old.which old.journal.disk old.spare c.append_frame.new.self.disk
          c.in-Err-Device.fault
          (subst (λ d. IsFault c.in-Err-Device.fault (g.D.Disk.state d) (g.D.Disk.state c.append_frame.new.self.disk))
          made.side.disk answer.1),
    ))

pub unreachable-requires-in-Err-SideFull : goal.unreachable-requires-in-Err-SideFull
unreachable-requires-in-Err-SideFull g c =
    let body = followed c.clear.new.self.body (map spell_change c.of-parts.result) in
    let body_is : body ≡ spell_all c.args.changes.now =
    parts_spell c.clear.new.self _ c.of-parts.result c.args.changes.now c.clear.ensures c.of-parts.ensures in
    let answer = rw c.in-Err-SideFull.field-0-is at c.in-Err-SideFull.ensures.answer in
    absurd (omega (
      arith,
      answer.1,
      ap (λ (l : List ℕ). length l) body_is,
      c.size_of_body-size.ensures,
      c.if-from-room.false,
      c.from.ensures,
      c.room.ensures,
      ap (λ (e : ℕ). room_behind e) c.make_room.ensures.side.end,
    ))
