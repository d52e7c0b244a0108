use Rattle.cartridge_sides.proofs.CopyLemmas.{copying_keeps, keeps_then}
use Rattle.cartridge_sides.proofs.GivenLemmas.{all_copied}
use Rattle.cartridge_sides.specs.Copying.{said_of}
use Rattle.cartridge_sides.proofs.copying.write_copy.Goals as goal

pub returns-in_err-at-clause-any_moment : goal.returns-in_err-at-clause-any_moment
returns-in_err-at-clause-any_moment g c = λ h closed sure which head bodies counts stands.
    copying_keeps which head bodies counts (g.D.Disk.state c.args.spare.now) (g.D.Disk.state c.write_head.new.spare)
    closed sure (c.write_head.ensures.front h) stands

pub returns-in_err-end-clause-any_moment : goal.returns-in_err-end-clause-any_moment
returns-in_err-end-clause-any_moment g c = λ h closed sure which head bodies counts stands.
    let old = g.D.Disk.state c.args.spare.now in
    let mid = g.D.Disk.state c.write_head.new.spare in
    let new = g.D.Disk.state c.write_frames.new.spare in
    let later = c.write_head.ensures.passes.stays_honest h in
    copying_keeps which head bodies counts old new closed sure
    (keeps_then old mid new (g.met.D.Disk.is_disk c.write_head.new.spare later) (c.write_head.ensures.front h)
    (c.write_frames.ensures.front later)) stands

pub returns-clause-ok : goal.returns-clause-ok
returns-clause-ok g c =
    let frames = c.in_ok-end.ensures.ok in
    all_copied g.S.GivesBodies.gives (said_of c.args.header.now c.args.copied) c.in_ok-end.end
    c.args.source.now c.write_frames.new.source (g.D.Disk.state c.args.spare.now)
    (g.D.Disk.state c.write_head.new.spare) (g.D.Disk.state c.write_frames.new.spare)
    (g.D.Disk.state c.write_end.new.spare) c.write_head.ensures.passes.stays_honest
    c.write_frames.ensures.disk.stays_honest c.in_ok-at.ensures.passes.none_failed
    (λ h. (c.in_ok-at.ensures.written h).0) frames.0 frames.1 c.write_end.result
    c.write_end.ensures.passes.none_failed c.write_end.ensures.sure

pub returns-clause-any_moment : goal.returns-clause-any_moment
returns-clause-any_moment g c = λ h closed sure which head bodies counts stands.
    let old = g.D.Disk.state c.args.spare.now in
    let one = g.D.Disk.state c.write_head.new.spare in
    let two = g.D.Disk.state c.write_frames.new.spare in
    let new = g.D.Disk.state c.write_end.new.spare in
    let later = c.write_head.ensures.passes.stays_honest h in
    let last = c.write_frames.ensures.disk.stays_honest later in
    copying_keeps which head bodies counts old new closed sure
    (keeps_then old two new (g.met.D.Disk.is_disk c.write_frames.new.spare last)
    (keeps_then old one two (g.met.D.Disk.is_disk c.write_head.new.spare later) (c.write_head.ensures.front h)
    (c.write_frames.ensures.front later)) (c.write_end.ensures.front last)) stands
