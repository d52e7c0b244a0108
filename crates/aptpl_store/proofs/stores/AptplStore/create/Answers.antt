use Rattle.std.proofs.Common.{[], ap, subst, sym, ◌∙◌}
use Rattle.std.proofs.lemmas.List.Elements.{All-nil}
use Rattle.gate_journal.specs.Side.{Front, StandsFor, plain}
use Rattle.aptpl_store.specs.Spelling.{IsSavable}
use Rattle.aptpl_store.proofs.stores.AptplStore.create.Goals as goal

pub returns-in-Ok-create_reserved-clause-sure : goal.returns-in-Ok-create_reserved-clause-sure
returns-in-Ok-create_reserved-clause-sure g c = λ h image left. (
  ap (λ (f : Front). f.head.heading.kind) c.in-Ok-create_reserved.ensures.ok.0,
  All-nil IsSavable,
  subst (λ (f : Front). StandsFor f [] image)
      (c.in-Ok-create_reserved.ensures.ok.0
      ∙ ap plain (sym (ap (λ (f : Front). f.head.heading) c.in-Ok-create_reserved.ensures.ok.0)))
      (c.in-Ok-create_reserved.ensures.sure h image left),
)
