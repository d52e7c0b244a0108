-- Items of which nothing was run (own).
use Rattle.std.specs.Prelude.{◌≡◌, List, [], ◌∷◌, Result, Ok, Err, OnErr}
use Rattle.std.proofs.Common.{refl, inr}
use Rattle.scsi_sense.specs.declared.replies.Reply.{Reply}
use Rattle.vtl_script.specs.declared.items.Item.{Item}
use Rattle.vtl_script.specs.declared.items.Item.TheVariants.{Phase, Move}
use Rattle.vtl_script.specs.Runs.{AnswersSome}

-- where a call that leaves all as it is answers a phase of no command, it answers the first commands of any item: none
pub none_of_item : {P : Type 0} (answers : P → List Item → List Reply → P → Type 0) (old : P) (item : Item)
    → answers old (Phase [] ∷ []) [] old → AnswersSome answers old item old
none_of_item answers old (Phase lines) empty = record
    { part = Phase []; begins = (0, refl); replies = []; answered = empty }
none_of_item answers old (Move from to) empty = record
    { part = Phase []; begins = inr refl; replies = []; answered = empty }

-- the same of a call that leaves all as it was where it fails
pub none_answered : {P T E : Type 0} (answers : P → List Item → List Reply → P → Type 0) (old new : P) (item : Item)
    (result : Result T E) → answers old (Phase [] ∷ []) [] old → OnErr result (new ≡ old)
    → OnErr result (AnswersSome answers old item new)
none_answered answers old new item (Ok done) empty same = tt
none_answered answers old new item (Err fault) empty same = rw same (none_of_item answers old item empty)
