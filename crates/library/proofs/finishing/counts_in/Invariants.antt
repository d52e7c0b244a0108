use Rattle.std.proofs.Common.{◌≡◌, length, take}
use Rattle.library.specs.Ends.{counts_of}
use Rattle.library.proofs.finishing.counts_in.Given as goal

-- the counts so far are those of the drives
abbrev pub invariant-loop-place : goal.invariant-loop-place
invariant-loop-place g l = record {
  long : length l.counts ≡ 16;
  same : take l.place l.counts ≡ take l.place (counts_of l.row);
}
