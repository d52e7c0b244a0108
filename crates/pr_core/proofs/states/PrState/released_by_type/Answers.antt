use Rattle.std.proofs.Common.{rules, ◌≡◌, ◌∙◌, ap, Bool, false, ◌&&◌, not}
use Rattle.pr_core.specs.Sets.{row_at, minus}
use Rattle.pr_core.specs.States.{others}
use Rattle.pr_core.specs.Reserve.{is_same_type}
use Rattle.pr_core.specs.Preempt.{released_by_type}
use Rattle.pr_core.proofs.states.PrState.released_by_type.Goals as goal

pub returns : goal.returns
returns c = λ set shows.
    let other_type = not (is_same_type c.args.was c.args.kind) in
    let now = others c.args.self.now c.args.nexus in
    c.row_of.ensures (released_by_type c.args.self.now c.args.nexus set c.args.was c.args.kind) (λ other answer is post.
    let established : answer ≡ (other_type && minus now (row_at false c.args.removed.now) other) = search rules in
    established ∙ ap (λ (gone : Bool). other_type && (now other && not gone)) (shows.each other is))
