use Rattle.std.proofs.Common.{refl}
use Rattle.file_disk.proofs.BeginLemmas.{closed_start}
use Rattle.file_disk.proofs.begins.begins_with.Goals as goal

pub returns-else-start-eq-OPEN : goal.returns-else-start-eq-OPEN
returns-else-start-eq-OPEN c = λ rest.
    closed_start c.args.start.now rest c.told-start (c.if-not-has_mark.ensures.0 refl) c.if-start-eq-OPEN.false
