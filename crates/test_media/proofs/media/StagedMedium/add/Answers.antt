use Rattle.std.proofs.Common.{◌≡◌, ◌∙◌, ap, true, rules}
use Rattle.volume_core.specs.Medium.{volume_of}
use Rattle.test_media.specs.StagedMedium.{Staged, staged_state}
use Rattle.test_media.proofs.MediumLemmas.{seen_awake, staged_with}
use Rattle.test_media.proofs.media.StagedMedium.add.Goals as goal

-- the change is not refused
pub unreachable-requires : goal.unreachable-requires
unreachable-requires c =
    let inside = c.self.inside in
    let awake : inside.awake ≡ true = ap (λ (m : Staged). m.awake) c.self.view_is ∙ c.requires.awake in
    let seen : inside.seen ≡ volume_of (staged_state c.args.self.now) =
    rw (← c.self.view_is)
    (seen_awake _ inside.seen inside.log.items inside.stored inside.awake awake c.self.invariant.seen_is.1) in
    search rules

-- the log has one change more
pub invariant_of-self-2 : goal.invariant_of-self-2
invariant_of-self-2 c =
    let inside = c.self.inside in
    rw (c.push_reserved.ensures.items, c.reserve.ensures.items, c.frame_size-size.ensures)
    (staged_with
    inside.capacities.items inside.log.items inside.stored inside.room inside.free inside.seen
    c.apply.new.self inside.awake inside.failed c.args.change c.self.invariant
    (search rules) (search rules) (search rules))
