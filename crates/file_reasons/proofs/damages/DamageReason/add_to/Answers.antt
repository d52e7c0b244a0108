use Rattle.file_reasons.proofs.DamageLemmas.{added_thrice}
use Rattle.file_reasons.proofs.damages.DamageReason.add_to.Goals as goal

pub returns : goal.returns
returns c =
    added_thrice c.add.result c.args.lines.now c.add_place.new.lines c.add_allowed.new.lines c.add.new.self _ _ _
    c.in_ok-add_place.ensures c.in_ok-add_allowed.ensures c.add.ensures.ok
