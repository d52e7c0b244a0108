use Rattle.tape_disk.proofs.count.Count.copy.Given as goal

abbrev pub ghost-like : goal.ghost-like
ghost-like a = a._count.now.value
