use Rattle.std.proofs.Common.{arith}
use Rattle.std.proofs.lemmas.Result.{err_from_is_err_and}
use Rattle.tape_disk.specs.Sequences.{keeps_in_sequence}
use Rattle.cartridge_sides.proofs.CopyLemmas.{keeps_then}
use Rattle.cartridge_sides.proofs.GivenLemmas.{frames_more, not_since}
use Rattle.cartridge_sides.proofs.copying.write_frames.Goals as goal

pub returns-in_err-end-clause-err : goal.returns-in_err-end-clause-err
returns-in_err-end-clause-err g c =
    let so_far = c.loop-i.invariant.frames in
    let p = err_from_is_err_and c.from_residual.result c.from_residual.ensures.1 in
    rw (p.1, p.2)
    (not_since g.S.GivesBodies.gives g.S.GivesBodies.fails c.in_err-end.field-0.0 so_far.0 c.args.source.now
    c.loop-i.source c.write_frame.new.source (g.D.Disk.state c.args.spare.now) (g.D.Disk.state c.loop-i.spare)
    (g.D.Disk.state c.write_frame.new.spare) so_far.1.none_failed so_far.1.gave c.in_err-end.ensures.err)

pub returns-in_err-end-clause-front : goal.returns-in_err-end-clause-front
returns-in_err-end-clause-front g c = λ h.
    let inv = c.loop-i.invariant in
    let later = inv.keeps.stays_honest h in
    keeps_then (g.D.Disk.state c.args.spare.now) (g.D.Disk.state c.loop-i.spare)
    (g.D.Disk.state c.write_frame.new.spare) (g.met.D.Disk.is_disk c.loop-i.spare later)
    (inv.front h) (c.write_frame.ensures.front later)

pub loop-i-preserved : goal.loop-i-preserved
loop-i-preserved g c =
    let old = g.D.Disk.state c.args.spare.now in
    let mid = g.D.Disk.state c.loop-i.spare in
    let new = g.D.Disk.state c.write_frame.new.spare in
    let inv = c.loop-i.invariant in
    let so_far = inv.frames in
    let next = c.in_ok-end.ensures.ok in
    record {
      near = omega (arith, inv.near, next.1.end_is, next.1.short.1);
      room = omega (arith, inv.room, c.write_frame.ensures.room);
      keeps = keeps_in_sequence old mid new inv.keeps c.write_frame.ensures.disk;
      front = λ h.
          let later = inv.keeps.stays_honest h in
          keeps_then old mid new (g.met.D.Disk.is_disk c.loop-i.spare later) (inv.front h)
          (c.write_frame.ensures.front later);
      frames = (
        _,
        frames_more g.S.GivesBodies.gives c.loop-i._i so_far.0 next.0 c.loop-i.end c.in_ok-end.end
            c.args.source.now c.loop-i.source c.write_frame.new.source old mid new inv.keeps.stays_honest so_far.1
            next.1,
      );
    }
