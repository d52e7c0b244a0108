use Rattle.std.proofs.Common.{◌≡◌, true}
use Rattle.test_volume.proofs.media.assert_rows.Given as goal

-- it is awake before each row
abbrev pub invariant-loop-ask : goal.invariant-loop-ask
invariant-loop-ask g l = (g.M.Catalog.state l.medium).awake ≡ true
