use Rattle.std.proofs.Common.{rules}
use Rattle.explanations.proofs.LineLemmas.{line_added}
use Rattle.explanations.proofs.explanation.Explanation.add.Goals as goal

pub invariant_of-self : goal.invariant_of-self
invariant_of-self c =
    line_added c.push_str.result _ c.args.text.now _ c.self.invariant
    (search (rules, c.push_str.ensures.bytes, c.as_str.ensures.value, c.in_ok-line.ensures, c.as_bytes.ensures.value))
