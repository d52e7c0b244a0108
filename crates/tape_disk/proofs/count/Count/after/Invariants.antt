use Rattle.std.proofs.Common.{◌+◌}
use Rattle.tape_disk.proofs.count.Count.after.Given as goal

abbrev pub ghost-like : goal.ghost-like
ghost-like a = a._count.now.value + 1
