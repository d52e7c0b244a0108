use Rattle.std.proofs.Common.{◌≡◌, ◌+◌, ◌≤◌, ◌++◌, ◌∷◌, [], List, ℕ, length, ◌∙◌, ap, arith}
use Rattle.std.proofs.lemmas.List.{length-take-le}
use Rattle.std.proofs.lemmas.Result.{on_ok_weaker}
use Rattle.tape_disk.specs.Disk.{Only, overwritten}
use Rattle.gate_journal.specs.Followed.{followed}
use Rattle.gate_journal.specs.Side.{CLOSED}
use Rattle.gate_journal.proofs.AddingLemmas.{all_laid, all_stored, gate_laid, gate_synced, made_sure, parts_laid, rest_laid}
use Rattle.gate_journal.proofs.Writing.{cut_off, first, second, is_opened, still_inside}
use Rattle.gate_journal.proofs.gathering.write_frame.Goals as goal

pub returns-in_err-cut_behind-clause-any_moment : goal.returns-in_err-cut_behind-clause-any_moment
returns-in_err-cut_behind-clause-any_moment g c = λ h.
    let all = followed c.args.bytes.now.items (g.P.BodyParts.parts c.args.parts.now) in
    let tail = all ++ CLOSED ∷ [] in
    let d0 = g.D.Disk.state c.args.disk.now in
    cut_off tail c.args.end d0 (c.requires.gate h) (c.requires.sure h)
    (g.D.Disk.state c.cut_behind.new.disk) (c.cut_behind.ensures.any_moment h)

pub returns-in_err-at-clause-any_moment : goal.returns-in_err-at-clause-any_moment
returns-in_err-at-clause-any_moment g c = λ h.
    let all = followed c.args.bytes.now.items (g.P.BodyParts.parts c.args.parts.now) in
    let tail = all ++ CLOSED ∷ [] in
    let d0 = g.D.Disk.state c.args.disk.now in
    let d1 = g.D.Disk.state c.cut_behind.new.disk in
    let h1 = c.cut_behind.ensures.passes.stays_honest h in
    let is1 = g.met.D.Disk.is_disk c.cut_behind.new.disk h1 in
    let d2 = g.D.Disk.state c.add_parts.new.disk in
    first tail c.args.end d0 (c.requires.gate h) (c.requires.sure h)
    d1 (c.cut_behind.ensures.any_moment h) is1 d2
    (parts_laid all (c.args.end + 1) d1 d2 is1 (c.add_parts.ensures.any_moment h1))

pub returns-in_err-write_at-clause-any_moment : goal.returns-in_err-write_at-clause-any_moment
returns-in_err-write_at-clause-any_moment g c = λ h.
    let all = followed c.args.bytes.now.items (g.P.BodyParts.parts c.args.parts.now) in
    let tail = all ++ CLOSED ∷ [] in
    let d0 = g.D.Disk.state c.args.disk.now in
    let d1 = g.D.Disk.state c.cut_behind.new.disk in
    let h1 = c.cut_behind.ensures.passes.stays_honest h in
    let is1 = g.met.D.Disk.is_disk c.cut_behind.new.disk h1 in
    let d2 = g.D.Disk.state c.add_parts.new.disk in
    let h2 = c.add_parts.ensures.passes.stays_honest h1 in
    let is2 = g.met.D.Disk.is_disk c.add_parts.new.disk h2 in
    let held = c.deref.ensures.value ∙ c.push_reserved.ensures.items in
    let d3 = g.D.Disk.state c.write_at.new.self in
    first tail c.args.end d0 (c.requires.gate h) (c.requires.sure h)
    d1 (c.cut_behind.ensures.any_moment h) is1 d3
    (rest_laid all (c.args.end + 1) d1 d2 is1 (c.add_parts.ensures.any_moment h1) is2 c.in_ok-at.at
    c.add_parts.new.bytes.items c.deref.result.now c.in_ok-at.ensures.gathers held d3 _
    (c.write_at.ensures.writes h2) (c.write_at.ensures.time h2))

pub returns-in_err-sync-clause-any_moment : goal.returns-in_err-sync-clause-any_moment
returns-in_err-sync-clause-any_moment g c = λ h.
    let all = followed c.args.bytes.now.items (g.P.BodyParts.parts c.args.parts.now) in
    let tail = all ++ CLOSED ∷ [] in
    let d0 = g.D.Disk.state c.args.disk.now in
    let d1 = g.D.Disk.state c.cut_behind.new.disk in
    let h1 = c.cut_behind.ensures.passes.stays_honest h in
    let is1 = g.met.D.Disk.is_disk c.cut_behind.new.disk h1 in
    let d2 = g.D.Disk.state c.add_parts.new.disk in
    let h2 = c.add_parts.ensures.passes.stays_honest h1 in
    let is2 = g.met.D.Disk.is_disk c.add_parts.new.disk h2 in
    let held = c.deref.ensures.value ∙ c.push_reserved.ensures.items in
    let d3 = g.D.Disk.state c.write_at.new.self in
    let h3 = c.write_at.ensures.passes.stays_honest h2 in
    let is3 = g.met.D.Disk.is_disk c.write_at.new.self h3 in
    let d4 = g.D.Disk.state c.sync.new.self in
    first tail c.args.end d0 (c.requires.gate h) (c.requires.sure h)
    d1 (c.cut_behind.ensures.any_moment h) is1 d4
    (all_laid all (c.args.end + 1) d1 d2 is1 (c.add_parts.ensures.any_moment h1) is2 c.in_ok-at.at
    c.add_parts.new.bytes.items c.deref.result.now c.in_ok-at.ensures.gathers held d3 _
    (c.write_at.ensures.writes h2) (c.write_at.ensures.time h2) is3 d4 _ (c.sync.ensures.syncs h3)
    (c.sync.ensures.time h3))

pub write_at-requires-2 : goal.write_at-requires-2
write_at-requires-2 g c = λ honest.
    let h =
    c.cut_behind.ensures.passes.was_honest
    (c.add_parts.ensures.passes.was_honest
    (c.write_at.ensures.passes.was_honest (c.sync.ensures.passes.was_honest honest))) in
    let all = followed c.args.bytes.now.items (g.P.BodyParts.parts c.args.parts.now) in
    let tail = all ++ CLOSED ∷ [] in
    let d0 = g.D.Disk.state c.args.disk.now in
    let d1 = g.D.Disk.state c.cut_behind.new.disk in
    let h1 = c.cut_behind.ensures.passes.stays_honest h in
    let is1 = g.met.D.Disk.is_disk c.cut_behind.new.disk h1 in
    let d2 = g.D.Disk.state c.add_parts.new.disk in
    let h2 = c.add_parts.ensures.passes.stays_honest h1 in
    let is2 = g.met.D.Disk.is_disk c.add_parts.new.disk h2 in
    let held = c.deref.ensures.value ∙ c.push_reserved.ensures.items in
    let d3 = g.D.Disk.state c.write_at.new.self in
    let h3 = c.write_at.ensures.passes.stays_honest h2 in
    let is3 = g.met.D.Disk.is_disk c.write_at.new.self h3 in
    let d4 = g.D.Disk.state c.sync.new.self in
    let h4 = c.sync.ensures.passes.stays_honest h3 in
    let is4 = g.met.D.Disk.is_disk c.sync.new.self h4 in
    let laid = all_laid all (c.args.end + 1) d1 d2 is1 (c.add_parts.ensures.any_moment h1) is2 c.in_ok-at.at
    c.add_parts.new.bytes.items c.deref.result.now c.in_ok-at.ensures.gathers held d3 _
    (c.write_at.ensures.writes h2) (c.write_at.ensures.time h2) is3 d4 _ (c.sync.ensures.syncs h3)
    (c.sync.ensures.time h3) in
    let shorter = c.in_ok-cut_behind.ensures.cut h in
    let place : c.args.end + 1 ≤ length d1.seen =
    omega (
      arith,
      c.requires.gate h,
      ap (λ (l : List ℕ). length l) shorter,
      length-take-le (c.args.end + 1) d0.seen (omega (arith, c.requires.gate h)),
    ) in
    let made = made_sure d3 d4 is4 (c.in_ok-sync.ensures.syncs h3).durable in
    let holds : d4.seen ≡ overwritten (c.args.end + 1) tail d1.seen =
    made.0
    ∙ all_stored all c.add_parts.new.bytes.items c.deref.result.now (c.args.end + 1) c.in_ok-at.at d1 d2 d3 place
    c.in_ok-at.ensures.gathers held (c.in_ok-at.ensures.gathers.seen h1) (c.in_ok-write_at.ensures.writes h2).written in
    omega (
      arith,
      still_inside tail c.args.end d0 (c.requires.gate h) (c.requires.sure h)
          d1 (c.cut_behind.ensures.any_moment h) is1 d4 laid shorter holds,
    )

pub returns-in_err-write_at-2-clause-any_moment : goal.returns-in_err-write_at-2-clause-any_moment
returns-in_err-write_at-2-clause-any_moment g c = λ h.
    let all = followed c.args.bytes.now.items (g.P.BodyParts.parts c.args.parts.now) in
    let tail = all ++ CLOSED ∷ [] in
    let d0 = g.D.Disk.state c.args.disk.now in
    let d1 = g.D.Disk.state c.cut_behind.new.disk in
    let h1 = c.cut_behind.ensures.passes.stays_honest h in
    let is1 = g.met.D.Disk.is_disk c.cut_behind.new.disk h1 in
    let d2 = g.D.Disk.state c.add_parts.new.disk in
    let h2 = c.add_parts.ensures.passes.stays_honest h1 in
    let is2 = g.met.D.Disk.is_disk c.add_parts.new.disk h2 in
    let held = c.deref.ensures.value ∙ c.push_reserved.ensures.items in
    let d3 = g.D.Disk.state c.write_at.new.self in
    let h3 = c.write_at.ensures.passes.stays_honest h2 in
    let is3 = g.met.D.Disk.is_disk c.write_at.new.self h3 in
    let d4 = g.D.Disk.state c.sync.new.self in
    let h4 = c.sync.ensures.passes.stays_honest h3 in
    let is4 = g.met.D.Disk.is_disk c.sync.new.self h4 in
    let laid = all_laid all (c.args.end + 1) d1 d2 is1 (c.add_parts.ensures.any_moment h1) is2 c.in_ok-at.at
    c.add_parts.new.bytes.items c.deref.result.now c.in_ok-at.ensures.gathers held d3 _
    (c.write_at.ensures.writes h2) (c.write_at.ensures.time h2) is3 d4 _ (c.sync.ensures.syncs h3)
    (c.sync.ensures.time h3) in
    let shorter = c.in_ok-cut_behind.ensures.cut h in
    let place : c.args.end + 1 ≤ length d1.seen =
    omega (
      arith,
      c.requires.gate h,
      ap (λ (l : List ℕ). length l) shorter,
      length-take-le (c.args.end + 1) d0.seen (omega (arith, c.requires.gate h)),
    ) in
    let made = made_sure d3 d4 is4 (c.in_ok-sync.ensures.syncs h3).durable in
    let holds : d4.seen ≡ overwritten (c.args.end + 1) tail d1.seen =
    made.0
    ∙ all_stored all c.add_parts.new.bytes.items c.deref.result.now (c.args.end + 1) c.in_ok-at.at d1 d2 d3 place
    c.in_ok-at.ensures.gathers held (c.in_ok-at.ensures.gathers.seen h1) (c.in_ok-write_at.ensures.writes h2).written in
    let d5 = g.D.Disk.state c.write_at-2.new.self in
    second tail c.args.end d0 (c.requires.gate h) (c.requires.sure h)
    d1 (c.cut_behind.ensures.any_moment h) is1 d4 laid shorter holds d5
    (gate_laid c.args.end d4 d5 is4 made.1 _ (c.write_at-2.ensures.writes h4) (c.write_at-2.ensures.time h4))

pub returns-clause-any_moment : goal.returns-clause-any_moment
returns-clause-any_moment g c = λ h.
    let all = followed c.args.bytes.now.items (g.P.BodyParts.parts c.args.parts.now) in
    let tail = all ++ CLOSED ∷ [] in
    let d0 = g.D.Disk.state c.args.disk.now in
    let d1 = g.D.Disk.state c.cut_behind.new.disk in
    let h1 = c.cut_behind.ensures.passes.stays_honest h in
    let is1 = g.met.D.Disk.is_disk c.cut_behind.new.disk h1 in
    let d2 = g.D.Disk.state c.add_parts.new.disk in
    let h2 = c.add_parts.ensures.passes.stays_honest h1 in
    let is2 = g.met.D.Disk.is_disk c.add_parts.new.disk h2 in
    let held = c.deref.ensures.value ∙ c.push_reserved.ensures.items in
    let d3 = g.D.Disk.state c.write_at.new.self in
    let h3 = c.write_at.ensures.passes.stays_honest h2 in
    let is3 = g.met.D.Disk.is_disk c.write_at.new.self h3 in
    let d4 = g.D.Disk.state c.sync.new.self in
    let h4 = c.sync.ensures.passes.stays_honest h3 in
    let is4 = g.met.D.Disk.is_disk c.sync.new.self h4 in
    let laid = all_laid all (c.args.end + 1) d1 d2 is1 (c.add_parts.ensures.any_moment h1) is2 c.in_ok-at.at
    c.add_parts.new.bytes.items c.deref.result.now c.in_ok-at.ensures.gathers held d3 _
    (c.write_at.ensures.writes h2) (c.write_at.ensures.time h2) is3 d4 _ (c.sync.ensures.syncs h3)
    (c.sync.ensures.time h3) in
    let shorter = c.in_ok-cut_behind.ensures.cut h in
    let place : c.args.end + 1 ≤ length d1.seen =
    omega (
      arith,
      c.requires.gate h,
      ap (λ (l : List ℕ). length l) shorter,
      length-take-le (c.args.end + 1) d0.seen (omega (arith, c.requires.gate h)),
    ) in
    let made = made_sure d3 d4 is4 (c.in_ok-sync.ensures.syncs h3).durable in
    let holds : d4.seen ≡ overwritten (c.args.end + 1) tail d1.seen =
    made.0
    ∙ all_stored all c.add_parts.new.bytes.items c.deref.result.now (c.args.end + 1) c.in_ok-at.at d1 d2 d3 place
    c.in_ok-at.ensures.gathers held (c.in_ok-at.ensures.gathers.seen h1) (c.in_ok-write_at.ensures.writes h2).written in
    let d5 = g.D.Disk.state c.write_at-2.new.self in
    let h5 = c.write_at-2.ensures.passes.stays_honest h4 in
    let d6 = g.D.Disk.state c.sync-2.new.self in
    second tail c.args.end d0 (c.requires.gate h) (c.requires.sure h)
    d1 (c.cut_behind.ensures.any_moment h) is1 d4 laid shorter holds d6
    (gate_synced c.args.end d4 d5 is4 made.1 _ (c.write_at-2.ensures.writes h4) (c.write_at-2.ensures.time h4)
    d6 _ (c.sync-2.ensures.syncs h5) (c.sync-2.ensures.time h5))

pub returns-clause-opened : goal.returns-clause-opened
returns-clause-opened g c = λ h.
    let all = followed c.args.bytes.now.items (g.P.BodyParts.parts c.args.parts.now) in
    let tail = all ++ CLOSED ∷ [] in
    let d0 = g.D.Disk.state c.args.disk.now in
    let d1 = g.D.Disk.state c.cut_behind.new.disk in
    let h1 = c.cut_behind.ensures.passes.stays_honest h in
    let is1 = g.met.D.Disk.is_disk c.cut_behind.new.disk h1 in
    let d2 = g.D.Disk.state c.add_parts.new.disk in
    let h2 = c.add_parts.ensures.passes.stays_honest h1 in
    let is2 = g.met.D.Disk.is_disk c.add_parts.new.disk h2 in
    let held = c.deref.ensures.value ∙ c.push_reserved.ensures.items in
    let d3 = g.D.Disk.state c.write_at.new.self in
    let h3 = c.write_at.ensures.passes.stays_honest h2 in
    let is3 = g.met.D.Disk.is_disk c.write_at.new.self h3 in
    let d4 = g.D.Disk.state c.sync.new.self in
    let h4 = c.sync.ensures.passes.stays_honest h3 in
    let is4 = g.met.D.Disk.is_disk c.sync.new.self h4 in
    let laid = all_laid all (c.args.end + 1) d1 d2 is1 (c.add_parts.ensures.any_moment h1) is2 c.in_ok-at.at
    c.add_parts.new.bytes.items c.deref.result.now c.in_ok-at.ensures.gathers held d3 _
    (c.write_at.ensures.writes h2) (c.write_at.ensures.time h2) is3 d4 _ (c.sync.ensures.syncs h3)
    (c.sync.ensures.time h3) in
    let shorter = c.in_ok-cut_behind.ensures.cut h in
    let place : c.args.end + 1 ≤ length d1.seen =
    omega (
      arith,
      c.requires.gate h,
      ap (λ (l : List ℕ). length l) shorter,
      length-take-le (c.args.end + 1) d0.seen (omega (arith, c.requires.gate h)),
    ) in
    let made = made_sure d3 d4 is4 (c.in_ok-sync.ensures.syncs h3).durable in
    let holds : d4.seen ≡ overwritten (c.args.end + 1) tail d1.seen =
    made.0
    ∙ all_stored all c.add_parts.new.bytes.items c.deref.result.now (c.args.end + 1) c.in_ok-at.at d1 d2 d3 place
    c.in_ok-at.ensures.gathers held (c.in_ok-at.ensures.gathers.seen h1) (c.in_ok-write_at.ensures.writes h2).written in
    let d5 = g.D.Disk.state c.write_at-2.new.self in
    let h5 = c.write_at-2.ensures.passes.stays_honest h4 in
    let d6 = g.D.Disk.state c.sync-2.new.self in
    let h6 = c.sync-2.ensures.passes.stays_honest h5 in
    on_ok_weaker c.sync-2.result
    (λ (only : Only d5.seen d6.may_leave).
    let last = made_sure d5 d6 (g.met.D.Disk.is_disk c.sync-2.new.self h6) only in
    is_opened tail c.args.end d0 (c.requires.gate h) (c.requires.sure h)
    d1 (c.cut_behind.ensures.any_moment h) is1 d4 laid shorter holds d6
    (last.0 ∙ (c.in_ok-write_at-2.ensures.writes h4).written, last.1))
    (c.sync-2.ensures.syncs h5).durable
