use Rattle.std.proofs.Common.{ℕ, List, ◌+◌, ◌*◌, ◌≤◌}
use Rattle.std.specs.Prelude.{vec_capacity}
use Rattle.tape_disk.specs.Disk.{Keeps}
use Rattle.cartridge_sides.specs.Copying.{HasFrames, KeepsFront}
use Rattle.cartridge_sides.proofs.copying.write_frames.Given as goal

abbrev pub invariant-loop-i : goal.invariant-loop-i
invariant-loop-i g l =
    let old = g.D.Disk.state l.fn.spare in
    let new = g.D.Disk.state l.spare in
    record {
      near : l.end ≤ 71 + 4194309 * l._i;
      room : 4194309 ≤ vec_capacity l.buffer;
      keeps : Keeps old new;
      front : old.honest → KeepsFront old new;
      frames :
          (bodies : List (List ℕ))
          × HasFrames g.S.GivesBodies.gives l._i bodies l.end l.fn.source l.source old new;
    }
