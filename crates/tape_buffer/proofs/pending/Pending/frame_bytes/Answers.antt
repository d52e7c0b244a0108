use Rattle.std.proofs.Common.{ap, arith, sum_by}
use Rattle.volume_core.specs.Medium.{frame_size}
use Rattle.tape_buffer.proofs.PendingLemmas.{frames_of}
use Rattle.tape_buffer.proofs.pending.Pending.frame_bytes.Goals as goal

pub returns : goal.returns
returns c =
    let changes = c.self.inside.changes in
    omega (
      arith,
      c.len.ensures,
      changes.ok.0,
      c.self.invariant.1,
      frames_of changes.items,
      ap (sum_by frame_size) c.self.view_is,
    )
