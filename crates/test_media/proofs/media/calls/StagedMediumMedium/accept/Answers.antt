use Rattle.std.proofs.Common.{◌≡◌, ◌≤◌, ◌+◌, None, false, sum_by, rules}
use Rattle.volume_core.specs.Volume.{refusal_of}
use Rattle.volume_core.specs.Medium.{frame_size, volume_of}
use Rattle.test_media.specs.StagedMedium.{staged_state}
use Rattle.test_media.proofs.MediumLemmas.{fits_with, works_with}
use Rattle.test_media.proofs.media.calls.StagedMediumMedium.accept.Goals as goal

-- the change is pending now
pub returns-in-Ok-clause-answer : goal.returns-in-Ok-clause-answer
returns-in-Ok-clause-answer c =
    let old = c.args.self.now in
    let works : old.failed ≡ false = search rules in
    let applies : refusal_of (volume_of (staged_state old)) c.args.change ≡ None = search rules in
    let room : sum_by frame_size old.rest + frame_size c.args.change ≤ old.room = search rules in (
      applies,
      works,
      works_with old c.add.new.self c.args.change c.requires.awake works (search rules),
      fits_with old c.args.change c.requires.awake room,
    )
