use Rattle.std.proofs.Common.{◌≡◌, take}
use Rattle.volume_core.specs.Volume.{after, empty_volume}
use Rattle.test_media.proofs.MediumLemmas.{all_apply_take, staged_without}
use Rattle.test_media.proofs.media.StagedMedium.drop_rest.Goals as goal

-- what is stored applies
pub replayed-requires-clause-changes : goal.replayed-requires-clause-changes
replayed-requires-clause-changes c =
    rw (c.deref.ensures.value, c.deref-2.ensures.value) (all_apply_take _ _ _ c.self.invariant.seen_is.0)

-- only what is stored is left
pub invariant_of-self : goal.invariant_of-self
invariant_of-self c =
    let inside = c.self.inside in
    let leads : c.in_ok-self-inside.field-0
    ≡ after (empty_volume inside.capacities.items) (take inside.stored inside.log.items) =
    rw (← c.deref.ensures.value, ← c.deref-2.ensures.value) c.in_ok-self-inside.ensures in
    rw c.truncate.ensures.items
    (staged_without
    inside.capacities.items inside.log.items inside.stored inside.room inside.free inside.seen _
    inside.awake inside.failed c.self.invariant leads)
