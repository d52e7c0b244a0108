use Rattle.std.proofs.Common.{rules, ◌≡◌, ◌∙◌, ap, Bool, false, None, if◌then◌else◌}
use Rattle.pr_core.specs.Sets.{row_at}
use Rattle.pr_core.specs.States.{key_of}
use Rattle.pr_core.specs.Effects.{keys_without}
use Rattle.pr_core.proofs.states.PrState.without.Goals as goal

pub returns : goal.returns
returns c = λ set shows.
    c.row_of.ensures (keys_without c.args.self.now set) (λ nexus answer is post.
    let left : answer ≡ keys_without c.args.self.now (row_at false c.args.removed.now) nexus = search rules in
    left ∙ ap (λ (gone : Bool). if gone then None else key_of c.args.self.now nexus) (shows.each nexus is))
