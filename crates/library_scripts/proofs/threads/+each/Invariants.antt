use Rattle.std.proofs.Common.{◌+◌, ◌*◌, length}
use Rattle.library_scripts.proofs.threads.+each.Given as goal

-- as many values as are left, and each through the closure
abbrev pub decreases-each_beside : goal.decreases-each_beside
decreases-each_beside g l = 3 * length l.items.now

abbrev pub decreases-first_beside : goal.decreases-first_beside
decreases-first_beside g l = 3 * length l.rest.now + 2

abbrev pub decreases-first_beside-others : goal.decreases-first_beside-others
decreases-first_beside-others g l = 3 * length l.rest.now + 1
