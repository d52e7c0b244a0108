-- How an input is served, request by request (own).
use Rattle.std.specs.Prelude.{◌≡◌, ◌⊎◌, ℕ, ◌+◌, ◌^◌, ◌≤◌, Bool, true, false, List, [], ◌∷◌, Option, None, Some, Result, Ok, Err, flat_map, length}
use Rattle.std.specs.List.{All}
use Rattle.std.specs.Io.KnownBytes.{Appends, Consumes}
use Rattle.vtl_base.specs.Steps.{ticked}
use Rattle.vtl_wire.specs.declared.answers.Answer.{Answer}
use Rattle.vtl_wire.specs.declared.faults.WireFault.{WireFault}
use Rattle.vtl_wire.specs.declared.faults.WireFault.TheVariants.{BadFrame, ReadFault, WriteFault, NoMemory}
use Rattle.vtl_wire.specs.declared.requests.Request.{Request}
use Rattle.vtl_wire.specs.Answers.{FitsAnswer, spell_answer}
use Rattle.vtl_wire.specs.Reads.{LacksData, ReadsRequest, RefusesRequest, TakesSome}
use Rattle.vtl_wire.specs.Requests.{IsRequest, spell_requests}
use Rattle.vtl_wire.specs.Writes.{AppendsFront}

-- answers in bytes, one after the other (own)
abbrev pub spell_answers : List Answer → List ℕ
spell_answers answers = flat_map spell_answer answers

-- requests are taken and answered one after another, each from where the one before left what serves them (own)
abbrev pub AnswersEach : {S : Type 0} → (S → Request → Bool) → (S → Request → Answer → S → Type 0) → S → List Request
    → List Answer → S → Type 0
AnswersEach takes answers old [] [] new = new ≡ old
AnswersEach {S} takes answers old (request ∷ requests) (answer ∷ others) new =
    (mid : S) × (takes old request ≡ true) × answers old request answer mid
    × AnswersEach takes answers mid requests others new
AnswersEach takes answers old [] (answer ∷ others) new = ⊥
AnswersEach takes answers old (request ∷ requests) [] new = ⊥

-- the next frame is refused: the input begins with no request, or with one that is not taken (own)
abbrev pub RefusesNext : (Request → Bool) → Option (List ℕ) → Option (List ℕ) → Type 0
RefusesNext takes left left' =
    RefusesRequest left left'
    ⊎ ((request : Request) × ReadsRequest left left' (Some request) × (takes request ≡ false))

-- nothing more was served, and nothing written (own)
abbrev pub Rests : {S : Type 0} → S → Option (List ℕ) → S → Option (List ℕ) → Type 0
Rests mid before new now = (new ≡ mid) × (now ≡ before)

-- an answer was written whole, which a frame holds (own)
abbrev pub WritesAnswer : Option (List ℕ) → Option (List ℕ) → Answer → Type 0
WritesAnswer before now answer = FitsAnswer answer × Appends before now (spell_answer answer)

-- a beginning of an answer was written, and nothing of one that no frame holds (own)
abbrev pub WritesFront : Option (List ℕ) → Option (List ℕ) → Answer → Type 0
WritesFront before now answer =
    AppendsFront before now (spell_answer answer) × ((FitsAnswer answer → ⊥) → now ≡ before)

-- a request is answered, and this is written of the answer (own)
abbrev pub AnswersAndWrites : {S : Type 0} → (Option (List ℕ) → Option (List ℕ) → Answer → Type 0)
    → (S → Request → Answer → S → Type 0) → S → Request → Option (List ℕ) → S → Option (List ℕ) → Type 0
AnswersAndWrites writes answers old request before new now =
    (answer : Answer) × answers old request answer new × writes before now answer

-- a request was served, and its answer written whole, or a beginning of it (own)
pub record ServesOne {S : Type 0} (takes : S → Request → Bool) (answers : S → Request → Answer → S → Type 0)
    (writes : Option (List ℕ) → Option (List ℕ) → Answer → Type 0)
    (old : S) (left before : Option (List ℕ)) (new : S) (left' now : Option (List ℕ)) : Type 0 where
  pub request : Request
  pub read : ReadsRequest left left' (Some request)
  pub taken : takes old request ≡ true
  pub answer : Answer
  pub answered : answers old request answer new
  pub written : writes before now answer

-- why there was no memory: for the data of the next request; or as it was served, if it is one that is taken; or the
-- number of requests is at its greatest value (own)
abbrev pub IsOutOfMemory : (Request → Bool) → (Request → Type 0) → ℕ → Option (List ℕ) → Option (List ℕ) → Type 0
IsOutOfMemory takes lacks count left left' =
    LacksData left left'
    ⊎ (((request : Request) × ReadsRequest left left' (Some request) × (takes request ≡ true) × lacks request)
    ⊎ ((2 ^ 64 ≤ count + 1) × (left' ≡ left)))

-- how the serving of an input ends after this many requests that were served, which left `mid` (own)
abbrev pub ServingEnds : {S : Type 0} → (S → Request → Bool) → (S → Request → Answer → S → Type 0)
    → (S → Request → Type 0) → ℕ → S → Option (List ℕ) → Option (List ℕ) → S → Option (List ℕ) → Option (List ℕ)
    → Result (Unit {0}) WireFault → Type 0
-- the input has ended
ServingEnds takes answers lacks count mid left before new left' now (Ok done) =
    ReadsRequest left left' None × Rests mid before new now
-- the next frame is refused, and this is its number
ServingEnds takes answers lacks count mid left before new left' now (Err (BadFrame number)) =
    (number ≡ ticked count) × RefusesNext (takes mid) left left' × Rests mid before new now
-- a read failed, before the last byte of the next
ServingEnds takes answers lacks count mid left before new left' now (Err ReadFault) =
    TakesSome left left' × Rests mid before new now
-- one more was served, and its answer was not written, or not known to be
ServingEnds takes answers lacks count mid left before new left' now (Err WriteFault) =
    ServesOne takes answers WritesFront mid left before new left' now
-- there was no memory for the next
ServingEnds takes answers lacks count mid left before new left' now (Err NoMemory) =
    IsOutOfMemory (takes mid) (lacks mid) count left left' × Rests mid before new now

-- an input was read, served and answered (own)
pub record ServesInput {S : Type 0} (takes : S → Request → Bool) (answers : S → Request → Answer → S → Type 0)
    (lacks : S → Request → Type 0) (old : S) (left before : Option (List ℕ)) (new : S) (left' now : Option (List ℕ))
    (result : Result (Unit {0}) WireFault) : Type 0 where
  -- the requests that were served and answered whole, and the answers
  pub requests : List Request
  pub replies : List Answer
  pub mid : S
  pub answered : AnswersEach takes answers old requests replies mid
  -- what was read of them, and written: frames that hold them
  pub behind : Option (List ℕ)
  pub between : Option (List ℕ)
  pub read : Consumes left behind (spell_requests requests)
  pub spelled : All IsRequest requests
  pub fit : All FitsAnswer replies
  pub written : Appends before between (spell_answers replies)
  pub ended : ServingEnds takes answers lacks (length requests) mid behind between new left' now result
