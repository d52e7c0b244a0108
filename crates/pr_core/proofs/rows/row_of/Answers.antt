use Rattle.std.proofs.Common.{arith, ◌∙◌}
use Rattle.pr_core.proofs.SetLemmas.{row_at_is}
use Rattle.pr_core.proofs.rows.row_of.Goals as goal

pub returns : goal.returns
returns g c = λ entries gives. record {
  all = c.loop-number.invariant.1;
  each = λ nexus is.
      row_at_is _ _ nexus is.0 ∙ gives nexus _ is (c.loop-number.invariant.2 nexus is.0 (omega arith));
}
