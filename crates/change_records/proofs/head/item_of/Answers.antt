use Rattle.std.proofs.Common.{◌≡◌, sym, ◌∙◌, refl, arith, Some, None}
use Rattle.std.specs.Prelude.{Option, IfSome, IfNone, List, ℕ, ◌++◌, length}
use Rattle.change_records.specs.declared.records.Record.{Record}
use Rattle.change_records.specs.Readers.{IsHeadOf, head_item}
use Rattle.change_records.specs.Records.{BeginsWithRecord, record_of}
use Rattle.change_records.proofs.HeadLemmas.{begins_item, head_found}
use Rattle.change_records.proofs.head.item_of.Goals as goal

found : (head : List ℕ) (result : Option Record) → ((item : Record) → result ≡ Some item → IsHeadOf item head)
    → IfSome result (λ item. IsHeadOf item head)
found head None by = tt
found head (Some item) by = by item refl

pub returns-clause-front : goal.returns-clause-front
returns-clause-front c =
    found c.args.head.now c.head_decoded.result
    (λ item is. head_found c.args.head.now (omega arith) (λ k. omega (arith, c.type_inv.head k)) item
    (sym c.head_decoded.ensures ∙ is))

none : (head : List ℕ) (result : Option Record) → length head ≡ 10 → result ≡ head_item head
    → IfNone result ((tail : List ℕ) → BeginsWithRecord (head ++ tail) → ⊥)
none head (Some item) long is = tt
none head None long is = λ tail w.
    let found = begins_item head tail long w in
    let e : None ≡ Some (record_of w.0) = is ∙ found.0 in cc

pub returns-clause-none : goal.returns-clause-none
returns-clause-none c = none c.args.head.now c.head_decoded.result c.requires c.head_decoded.ensures
