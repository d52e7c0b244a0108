use Rattle.std.proofs.Common.{◌≡◌, length}
use Rattle.vtl_script.specs.Lines.{line_fields}
use Rattle.vtl_script.proofs.lines.next_field.Given as goal

-- only spaces were passed over
abbrev pub invariant-loop-rest : goal.invariant-loop-rest
invariant-loop-rest l = line_fields l.fn.text ≡ line_fields l.rest

abbrev pub decreases-loop-rest : goal.decreases-loop-rest
decreases-loop-rest l = length l.rest
