use Rattle.std.proofs.Common.{◌≡◌, ◌+◌, length, take}
use Rattle.vtl_base.specs.declared.limits.TheConstants.{MAX_BODY}
use Rattle.volume_core.specs.Volume.{AllApply, after}
use Rattle.change_records.specs.Records.{spell_all}
use Rattle.test_known.proofs.beside.carried_out.Given as goal

abbrev pub invariant-loop-change : goal.invariant-loop-change
invariant-loop-change l =
    (l.volume ≡ after l.fn.volume (take l.change-index l.changes))
    × AllApply l.fn.volume (take l.change-index l.changes)
    × (l.left + length (spell_all (take l.change-index l.changes)) ≡ MAX_BODY)
