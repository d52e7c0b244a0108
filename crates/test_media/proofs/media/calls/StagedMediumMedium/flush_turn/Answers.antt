use Rattle.std.proofs.Common.{◌≡◌, Ok, false, rules}
use Rattle.test_media.proofs.MediumLemmas.{settles_by, stores_by}
use Rattle.test_media.proofs.media.calls.StagedMediumMedium.flush_turn.Goals as goal

-- all that was pending is stored
pub returns-in-Ok-clause-answer : goal.returns-in-Ok-clause-answer
returns-in-Ok-clause-answer c =
    let works : c.args.self.now.failed ≡ false = search rules in
    let settled =
    settles_by c.args.self.now c.store.new.self (Ok c.in-Ok.field-0) c.requires.awake works c.in-Ok.ensures in
    (works, search rules, rw c.requires.awake c.count_pending-count.ensures, settled.1, settled.2)

pub returns-in-Ok-clause-stores : goal.returns-in-Ok-clause-stores
returns-in-Ok-clause-stores c =
    stores_by c.args.self.now c.store.new.self (Ok c.in-Ok.field-0) c.requires.awake c.in-Ok.ensures
