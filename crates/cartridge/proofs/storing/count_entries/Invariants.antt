use Rattle.std.proofs.Common.{◌≡◌, ◌≤◌, sum_by, take}
use Rattle.cartridge.specs.Answers.{entries_of}
use Rattle.cartridge.proofs.storing.count_entries.Given as goal

abbrev pub invariant-loop-change : goal.invariant-loop-change
invariant-loop-change l = record {
  counted : l.count ≡ sum_by (entries_of l.part) (take l.change-index l.changes);
  few : l.count ≤ l.change-index;
}
