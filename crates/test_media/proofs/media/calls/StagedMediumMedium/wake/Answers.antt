use Rattle.std.proofs.Common.{◌≡◌, false, inl, inr, rules}
use Rattle.test_media.proofs.MediumLemmas.{opens_with, opens_without, wakes_parked}
use Rattle.test_media.proofs.media.calls.StagedMediumMedium.wake.Goals as goal

-- a parked one is opened by what its side gives
pub returns-in-Ok-clause-answer : goal.returns-in-Ok-clause-answer
returns-in-Ok-clause-answer c =
    let old = c.args.self.now in
    let parked : old.awake ≡ false = search rules in
    elim c.in-Ok.ensures [
      | inl plain ↦ rw plain (wakes_parked _ _ _ parked (opens_without old))
      | inr torn ↦ rw torn.1 (wakes_parked _ _ _ parked (opens_with old torn.0))
    ]
