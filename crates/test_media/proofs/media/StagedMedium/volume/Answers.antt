use Rattle.std.proofs.Common.{◌≡◌, ◌∙◌, ap, true}
use Rattle.test_media.specs.StagedMedium.{Staged}
use Rattle.test_media.proofs.MediumLemmas.{seen_awake}
use Rattle.test_media.proofs.media.StagedMedium.volume.Goals as goal

-- one that is awake is seen as its whole log
pub returns : goal.returns
returns c =
    let inside = c.self.inside in
    let awake : inside.awake ≡ true = ap (λ (m : Staged). m.awake) c.self.view_is ∙ c.requires in
    rw (← c.self.view_is)
    (seen_awake _ inside.seen inside.log.items inside.stored inside.awake awake c.self.invariant.seen_is.1)
