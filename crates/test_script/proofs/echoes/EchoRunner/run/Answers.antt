use Rattle.std.proofs.Common.{List, [], ◌∷◌, Result, Ok, Err, OnErr, refl, inr}
use Rattle.scsi_sense.specs.declared.replies.Reply.{Reply}
use Rattle.vtl_script.specs.declared.items.Item.{Item}
use Rattle.vtl_script.specs.declared.items.Item.TheVariants.{Phase, Move}
use Rattle.vtl_script.specs.Runs.{AnswersSome}
use Rattle.test_script.proofs.echoes.EchoRunner.run.Goals as goal

-- a relation that holds for all items holds for a part of them
some_of : {P : Type 0} (answers : P → List Item → List Reply → P → Type 0)
    → ((old new : P) (items : List Item) (replies : List Reply) → answers old items replies new)
    → (old new : P) (item : Item) → AnswersSome answers old item new
some_of answers all old new (Phase lines) = record
    { part = Phase []; begins = (0, refl); replies = []; answered = all old new (Phase [] ∷ []) [] }
some_of answers all old new (Move from to) = record
    { part = Phase []; begins = inr refl; replies = []; answered = all old new (Phase [] ∷ []) [] }

if_failed : {P T E : Type 0} (answers : P → List Item → List Reply → P → Type 0)
    → ((old new : P) (items : List Item) (replies : List Reply) → answers old items replies new)
    → (old new : P) (item : Item) (result : Result T E) → OnErr result (AnswersSome answers old item new)
if_failed answers all old new item (Ok done) = tt
if_failed answers all old new item (Err fault) = some_of answers all old new item

pub returns-in_err-answers_of-in-Phase-clause-err : goal.returns-in_err-answers_of-in-Phase-clause-err
returns-in_err-answers_of-in-Phase-clause-err c =
    if_failed _ (λ old new items replies. tt) c.args.self.now _ c.args.item.now c.from_residual.result

pub returns-in_err-answers_of_move-in-Move-clause-err : goal.returns-in_err-answers_of_move-in-Move-clause-err
returns-in_err-answers_of_move-in-Move-clause-err c =
    if_failed _ (λ old new items replies. tt) c.args.self.now _ c.args.item.now
    c.from_residual-in_err-answers_of_move-in-Move.result
