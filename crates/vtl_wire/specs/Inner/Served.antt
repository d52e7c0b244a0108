-- One request that is served (own).
use Rattle.std.specs.Prelude.{◌≡◌, ℕ, Bool, true, false, List, Option, Result, Ok, Err}
use Rattle.vtl_base.specs.Steps.{ticked}
use Rattle.vtl_wire.specs.declared.answers.Answer.{Answer}
use Rattle.vtl_wire.specs.declared.faults.WireFault.{WireFault}
use Rattle.vtl_wire.specs.declared.faults.WireFault.TheVariants.{BadFrame, ReadFault, WriteFault, NoMemory}
use Rattle.vtl_wire.specs.declared.requests.Request.{Request}
use Rattle.vtl_wire.specs.Serving.{AnswersAndWrites, Rests, ServesOne, ServingEnds, WritesAnswer, WritesFront}

-- a request was served, and its answer written; or a write failed, or there was no memory, and nothing was done (own)
abbrev pub AnswersRequest : {S : Type 0} → (S → Request → Answer → S → Type 0) → (S → Request → Type 0) → S → Request
    → Option (List ℕ) → S → Option (List ℕ) → Result (Unit {0}) WireFault → Type 0
AnswersRequest answers lacks old request before new now (Ok done) =
    AnswersAndWrites WritesAnswer answers old request before new now
AnswersRequest answers lacks old request before new now (Err (BadFrame number)) = ⊥
AnswersRequest answers lacks old request before new now (Err ReadFault) = ⊥
AnswersRequest answers lacks old request before new now (Err WriteFault) =
    AnswersAndWrites WritesFront answers old request before new now
AnswersRequest answers lacks old request before new now (Err NoMemory) =
    lacks old request × Rests old before new now

-- the next request was served and counted; or the serving ends (own)
abbrev pub ServesNext : {S : Type 0} → (S → Request → Bool) → (S → Request → Answer → S → Type 0)
    → (S → Request → Type 0) → ℕ → S → Option (List ℕ) → Option (List ℕ) → ℕ → S → Option (List ℕ) → Option (List ℕ)
    → Result Bool WireFault → Type 0
ServesNext takes answers lacks count mid left before count' new left' now (Ok true) =
    ServesOne takes answers WritesAnswer mid left before new left' now × (count' ≡ ticked count)
ServesNext takes answers lacks count mid left before count' new left' now (Ok false) =
    ServingEnds takes answers lacks count mid left before new left' now (Ok tt)
ServesNext takes answers lacks count mid left before count' new left' now (Err fault) =
    ServingEnds takes answers lacks count mid left before new left' now (Err fault)
