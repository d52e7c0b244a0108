use Rattle.std.proofs.Common.{sym, ◌∙◌}
use Rattle.split_bay.proofs.HalvesLemmas.{reports_both}
use Rattle.split_bay.proofs.halves.tell.Goals as goal

pub returns : goal.returns
returns g c =
    let stuck = sym c.is_stuck.ensures ∙ c.if-not-is_stuck.false in
    let not_seen = sym c.has_failed.ensures ∙ c.if-has_failed.false in
    let made = c.renew.ensures in
    reports_both g.D.Disk.state c.args.front.now c.renew.new.front c.args.back.now c.renew.new.back made.0 made.1 stuck
    not_seen
