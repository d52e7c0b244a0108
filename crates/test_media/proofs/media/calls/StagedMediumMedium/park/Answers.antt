use Rattle.std.proofs.Common.{◌≡◌, false, rules}
use Rattle.test_media.proofs.MediumLemmas.{parks_stored}
use Rattle.test_media.proofs.media.calls.StagedMediumMedium.park.Goals as goal

-- one that works has stored all
pub returns-clause-answer : goal.returns-clause-answer
returns-clause-answer c =
    let works : c.args.self.now.failed ≡ false = search rules in
    rw (c.close-2.ensures, c.in_ok-store.ensures) (parks_stored c.args.self.now c.requires.awake works)
