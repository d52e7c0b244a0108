-- The thread that writes.
use Rattle.std.specs.Prelude.{◌≡◌, ℕ, Bool, true, false, List, [], ◌∷◌, ◌++◌, Option}
use Rattle.rtrb.specs.Ring.{SameConsumer, received}
use Rattle.vtl_wire.specs.declared.answers.Answer.{Answer}
use Rattle.vtl_wire.specs.Serving.{WritesAnswer, WritesFront}
use Rattle.vtl_hosts.specs.Rounds.{Given, WritesCut, WritesWhole}
use Rattle.vtl_hosts.specs.Inner.Rings.{Answers, TakesAnswers}

-- An answer was written, which a frame holds; or a beginning of it, and a write failed. Once one failed, nothing is
-- written (own).
abbrev pub WritesUnlessFailed : Option (List ℕ) → Bool → Option (List ℕ) → Bool → Answer → Type 0
WritesUnlessFailed before false now false answer = WritesAnswer before now answer
WritesUnlessFailed before false now true answer = WritesFront before now answer
WritesUnlessFailed before true now true answer = now ≡ before
WritesUnlessFailed before true now false answer = ⊥

-- answers were written, one after the other (own)
abbrev pub WritesGiven : Option (List ℕ) → Bool → Option (List ℕ) → Bool → List Given → Type 0
WritesGiven before false now false given = WritesWhole before now given
WritesGiven before false now true given = WritesCut before now given
WritesGiven before true now true given = now ≡ before
WritesGiven before true now false given = ⊥

-- an answer was taken from a ring and written; or there was none (own)
abbrev pub WritesNext :
    Answers → Option (List ℕ) → Bool → Answers → Option (List ℕ) → Bool → Bool → Type 0
WritesNext old before failed new now failed' true =
    (answer : Answer) × SameConsumer old new × (received new ≡ received old ++ answer ∷ [])
    × WritesUnlessFailed before failed now failed' answer
WritesNext old before failed new now failed' false =
    SameConsumer old new × (received new ≡ received old) × (now ≡ before) × (failed' ≡ failed)

-- answers were taken from the rings and written, one after the other (own)
pub record WritesAll (old : List Answers) (before : Option (List ℕ)) (failed : Bool)
    (new : List Answers) (now : Option (List ℕ)) (failed' : Bool) : Type 0 where
  pub given : List Given
  pub taken : TakesAnswers old new given
  pub written : WritesGiven before failed now failed' given
