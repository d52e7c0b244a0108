use Rattle.std.proofs.Common.{◌∙◌, ap, sym, ℕ, List, subst, arith}
use Rattle.std.specs.Prelude.{IfSome}
use Rattle.std.proofs.lemmas.List.{take_all}
use Rattle.sealed_records.specs.Sealed.{sealed_item}
use Rattle.sealed_records.specs.Readers.{IsSealedHeadOf}
use Rattle.sealed_records.proofs.head.Head.item.Goals as goal

pub returns-clause-item : goal.returns-clause-item
returns-clause-item c =
    λ long. c.sealed_item.ensures.item
    ∙ ap (sealed_item c.args.seed c.args.place)
    (sym (take_all c.self.inside.filled c.self.inside.bytes
    (omega (arith, c.if-self-lt-SEALED_HEAD.false, c.self.told)))
    ∙ c.self.view_is)

pub returns-clause-front : goal.returns-clause-front
returns-clause-front c =
    subst (λ (h : List ℕ). IfSome c.sealed_item.result (λ item. IsSealedHeadOf c.args.seed c.args.place item h))
    (sym (take_all c.self.inside.filled c.self.inside.bytes
    (omega (arith, c.if-self-lt-SEALED_HEAD.false, c.self.told)))
    ∙ c.self.view_is) c.sealed_item.ensures.front
