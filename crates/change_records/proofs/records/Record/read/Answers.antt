use Rattle.std.proofs.Common.{◌≡◌, sym, ◌∙◌, refl, arith, Some, None}
use Rattle.std.specs.Prelude.{Option}
use Rattle.change_records.specs.declared.records.Record.{Record}
use Rattle.change_records.specs.Records.{BeginsWithRecord, IsAtFront}
use Rattle.std.specs.Prelude.{IfSome, IfNone, List, ℕ}
use Rattle.change_records.specs.Inner.Decoded.{decoded}
use Rattle.change_records.proofs.Reading.{none_begins, decoded_found}
use Rattle.change_records.proofs.records.Record.read.Goals as goal

found : (bytes : List ℕ) (result : Option Record) → ((item : Record) → result ≡ Some item → IsAtFront item bytes)
    → IfSome result (λ item. IsAtFront item bytes)
found bytes None by = tt
found bytes (Some item) by = by item refl

none : (bytes : List ℕ) (result : Option Record) → result ≡ decoded bytes
    → IfNone result (BeginsWithRecord bytes → ⊥)
none bytes None is = none_begins bytes (sym is)
none bytes (Some item) is = tt

pub returns-clause-found : goal.returns-clause-found
returns-clause-found c =
    found c.args.bytes.now c.decoded.result
    (λ item is. decoded_found c.args.bytes.now (λ k. omega (arith, c.type_inv.bytes k)) item
    (sym c.decoded.ensures ∙ is))

pub returns-clause-none : goal.returns-clause-none
returns-clause-none c = none c.args.bytes.now c.decoded.result c.decoded.ensures
