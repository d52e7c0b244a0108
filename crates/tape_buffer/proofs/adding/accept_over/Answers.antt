use Rattle.std.proofs.Common.{◌≡◌, List, None, ap, sym, subst, ◌∙◌}
use Rattle.volume_core.specs.declared.changes.Change.{Change}
use Rattle.volume_core.specs.Volume.{Part, refusal_of}
use Rattle.volume_core.specs.Medium.{volume_of}
use Rattle.object_index.specs.Shapes.{IsIndexOf}
use Rattle.cartridge.specs.State.{OpenCartridge}
use Rattle.tape_buffer.specs.Frames.{MakesWay}
use Rattle.tape_buffer.specs.State.{open_buffer, open_state}
use Rattle.tape_buffer.proofs.CoreLemmas.{rests}
use Rattle.tape_buffer.proofs.AddingLemmas.{accepts_broken, accepts_more, advances_more, fits_more, volume_kept, volume_more, volume_still}
use Rattle.tape_buffer.proofs.FrameLemmas.{frames_refused}
use Rattle.tape_buffer.proofs.adding.accept_over.Given.{Over}
use Rattle.tape_buffer.proofs.adding.accept_over.Goals as goal

pub returns-then-has_failed-clause-advances : goal.returns-then-has_failed-clause-advances
returns-then-has_failed-clause-advances g c =
    rests g.D.Disk.state g.met.D.Disk.is_disk
    (open_buffer c.args.cartridge.now c.args.pending.now)

pub returns-in-Some-clause-advances : goal.returns-in-Some-clause-advances
returns-in-Some-clause-advances g c =
    rests g.D.Disk.state g.met.D.Disk.is_disk
    (open_buffer c.args.cartridge.now c.args.pending.now)

pub returns-then-not-has_room_over-clause-advances :
    goal.returns-then-not-has_room_over-clause-advances
returns-then-not-has_room_over-clause-advances g c =
    rests g.D.Disk.state g.met.D.Disk.is_disk
    (open_buffer c.args.cartridge.now c.args.pending.now)

unrefused : (g : Over) (c : goal.In-Ok-add_over g)
    → refusal_of (volume_of (open_state c.args.cartridge.now c.args.pending.now)) c.args.change ≡ None
unrefused g c =
    sym (c.refusal_shown.ensures (volume_of (open_state c.args.cartridge.now c.args.pending.now)) c.requires.shows)
    ∙ c.in-None.is

pub returns-in-Ok-add_over-clause-answer : goal.returns-in-Ok-add_over-clause-answer
returns-in-Ok-add_over-clause-answer g c =
    accepts_more c.args.cartridge.now c.make_way.new.cartridge c.add_over.new.cartridge c.args.pending.now
    c.make_way.new.pending c.add_over.new.pending c.args.change c.in-Ok-add_over.ensures.same
    c.in-Ok-add_over.ensures.ok c.in-Ok.ensures.answer (unrefused g c)
    (sym c.has_failed.ensures ∙ c.if-has_failed.false)
    (fits_more c.args.cartridge.now.room c.frame_size.result c.has_room_over.result c.args.pending.now c.args.change
    c.has_room_over.ensures.0 c.frame_size.ensures c.if-not-has_room_over.false)

pub returns-in-Ok-add_over-clause-advances : goal.returns-in-Ok-add_over-clause-advances
returns-in-Ok-add_over-clause-advances g c =
    advances_more c.args.cartridge.now c.make_way.new.cartridge c.add_over.new.cartridge c.args.pending.now
    c.make_way.new.pending c.add_over.new.pending c.args.change c.in-Ok-add_over.ensures.same g.D.Disk.state
    g.met.D.Disk.is_disk c.in-Ok.ensures.advances c.in-Ok.ensures.held
    (ap (λ (v : List Part). refusal_of v c.args.change) c.in-Ok.ensures.answer.volume_is ∙ unrefused g c)
    c.in-Ok.ensures.answer.works c.in-Ok-add_over.ensures.ok

pub returns-in-Ok-add_over-clause-frames : goal.returns-in-Ok-add_over-clause-frames
returns-in-Ok-add_over-clause-frames g c = (
  c.make_way.new.pending,
  subst (λ (frames : List (List Change)). MakesWay c.args.cartridge.now.contents.frames c.args.pending.now
      c.args.change frames c.make_way.new.pending)
      (sym (ap (λ (k : OpenCartridge _). k.contents.frames) c.in-Ok-add_over.ensures.same)) c.in-Ok.ensures.frames,
  c.in-Ok-add_over.ensures.ok,
)

pub returns-in-Err-clause-frames : goal.returns-in-Err-clause-frames
returns-in-Err-clause-frames g c =
    frames_refused (open_state c.args.cartridge.now c.args.pending.now)
    (open_state c.make_way.new.cartridge c.make_way.new.pending) c.args.change c.in-Err.error
    c.args.cartridge.now.contents.frames c.make_way.new.cartridge.contents.frames c.args.pending.now
    c.make_way.new.pending c.in-Err.ensures.answer c.in-Err.ensures.frames

pub returns-in-Err-clause-answer : goal.returns-in-Err-clause-answer
returns-in-Err-clause-answer g c =
    accepts_broken c.args.cartridge.now c.make_way.new.cartridge c.args.pending.now c.make_way.new.pending
    c.args.change c.in-Err.error
    (sym (c.refusal_shown.ensures (volume_of (open_state c.args.cartridge.now c.args.pending.now)) c.requires.shows)
    ∙ c.in-None.is)
    (sym c.has_failed.ensures ∙ c.if-has_failed.false)
    (fits_more c.args.cartridge.now.room c.frame_size.result c.has_room_over.result c.args.pending.now c.args.change
    c.has_room_over.ensures.0 c.frame_size.ensures c.if-not-has_room_over.false) c.in-Err.ensures.answer

pub returns-in-Err-clause-shows : goal.returns-in-Err-clause-shows
returns-in-Err-clause-shows g c =
    subst (IsIndexOf c.args.index.now)
    (sym (volume_kept (open_state c.args.cartridge.now c.args.pending.now)
    (open_state c.make_way.new.cartridge c.make_way.new.pending) c.in-Err.error c.in-Err.ensures.answer))
    c.requires.shows

pub add_over-requires-clause-shows : goal.add_over-requires-clause-shows
add_over-requires-clause-shows g c =
    subst (IsIndexOf c.args.index.now) (sym c.in-Ok.ensures.answer.volume_is) c.requires.shows

pub returns-in-Ok-add_over-clause-shows : goal.returns-in-Ok-add_over-clause-shows
returns-in-Ok-add_over-clause-shows g c =
    let between = volume_of (open_state c.make_way.new.cartridge c.make_way.new.pending) in
    subst (IsIndexOf c.add_over.new.index)
    (sym (volume_more c.args.cartridge.now c.make_way.new.cartridge c.add_over.new.cartridge c.args.pending.now
    c.make_way.new.pending c.add_over.new.pending c.args.change c.in-Ok-add_over.ensures.same
    c.in-Ok-add_over.ensures.ok))
    (c.in-Ok-add_over.ensures.shows between
    (subst (IsIndexOf c.args.index.now) (sym c.in-Ok.ensures.answer.volume_is) c.requires.shows))

pub returns-in-Err-add_over-clause-shows : goal.returns-in-Err-add_over-clause-shows
returns-in-Err-add_over-clause-shows g c =
    let between = volume_of (open_state c.make_way.new.cartridge c.make_way.new.pending) in
    subst (IsIndexOf c.add_over.new.index)
    (sym (volume_still c.args.cartridge.now c.make_way.new.cartridge c.add_over.new.cartridge c.args.pending.now
    c.make_way.new.pending c.add_over.new.pending c.args.change c.in-Err-add_over.ensures.same
    c.in-Err-add_over.ensures.err.1))
    (c.in-Err-add_over.ensures.shows between
    (subst (IsIndexOf c.args.index.now) (sym c.in-Ok.ensures.answer.volume_is) c.requires.shows))
