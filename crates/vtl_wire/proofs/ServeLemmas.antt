-- An input that is served request by request.
use Rattle.std.proofs.Common.{◌≡◌, ℕ, ◌+◌, ◌-◌, ◌<◌, ◌≤◌, ◌^◌, Bool, true, List, [], ◌∷◌, ◌++◌, length, Option, Some, Result, Ok, Err, refl, sym, ap, ◌∙◌, subst, arith, length-append, inl, inr}
use Rattle.std.specs.Prelude.{OnOk, OnErr, IfErr}
use Rattle.std.specs.List.{All}
use Rattle.std.specs.Io.KnownBytes.{Appends, Consumes}
use Rattle.std.proofs.KnownBytes.{Appends-nil, Appends-trans, Consumes-nil, Consumes-trans}
use Rattle.std.proofs.lemmas.List.{append-nil}
use Rattle.std.proofs.lemmas.List.Concat.{flat_map-append}
use Rattle.std.proofs.lemmas.List.Elements.{All-nil, All-push}
use Rattle.vtl_base.specs.Steps.{ticked}
use Rattle.vtl_wire.specs.declared.answers.Answer.{Answer}
use Rattle.vtl_wire.specs.declared.faults.WireFault.{WireFault}
use Rattle.vtl_wire.specs.declared.faults.WireFault.TheVariants.{BadFrame, ReadFault, WriteFault, NoMemory}
use Rattle.vtl_wire.specs.declared.requests.Request.{Request}
use Rattle.vtl_wire.specs.Answers.{FitsAnswer, spell_answer}
use Rattle.vtl_wire.specs.Reads.{MissesRequest, NotesFault, ReadsRequest}
use Rattle.vtl_wire.specs.Requests.{IsRequest, spell_request, spell_requests}
use Rattle.vtl_wire.specs.Serving.{AnswersEach, ServesInput, ServingEnds, spell_answers}
use Rattle.vtl_wire.specs.Writes.{AppendsFront}
use Rattle.vtl_wire.specs.Inner.Served.{AnswersRequest, ServesNext}

-- nothing of these bytes was written
pub front_none : (known : Option (List ℕ)) (bytes : List ℕ) → AppendsFront known known bytes
front_none known bytes = record { written = []; rest = bytes; front = refl; appended = Appends-nil known }

module _ {S : Type 0} (takes : S → Request → Bool) (answers : S → Request → Answer → S → Type 0)
    (lacks : S → Request → Type 0) where
  -- one more request was answered
  pub answers_more : (old mid new : S) (requests : List Request) (replies : List Answer) (request : Request)
      (answer : Answer)
      → AnswersEach takes answers old requests replies mid → takes mid request ≡ true
      → answers mid request answer new
      → AnswersEach takes answers old (requests ++ request ∷ []) (replies ++ answer ∷ []) new
  answers_more old mid new [] [] request answer same ok one =
      subst (λ (s : S). AnswersEach takes answers s (request ∷ []) (answer ∷ []) new) same (new, ok, one, refl)
  answers_more old mid new (r ∷ rs) (a ∷ others) request answer each ok one =
      (each.0, each.1, each.2, answers_more each.0 mid new rs others request answer each.3 ok one)
  answers_more old mid new [] (a ∷ others) request answer each ok one = absurd each
  answers_more old mid new (r ∷ rs) [] request answer each ok one = absurd each

  -- a served request, with what the writing of its answer comes to
  pub answered_by : (old : S) (request : Request) (answer : Answer) (before now : Option (List ℕ)) (new : S)
      (result : Result (Unit {0}) WireFault)
      → answers old request answer new → OnOk result (Appends before now (spell_answer answer))
      → OnErr result (AppendsFront before now (spell_answer answer)) → OnOk result (FitsAnswer answer)
      → ((FitsAnswer answer → ⊥) → now ≡ before) → IfErr result (λ fault. fault ≡ WriteFault)
      → AnswersRequest answers lacks old request before new now result
  answered_by old request answer before now new (Ok done) one ok err fits unfit fault = (answer, one, (fits, ok))
  answered_by old request answer before now new (Err e) one ok err fits unfit fault =
      subst (λ (f : WireFault). AnswersRequest answers lacks old request before new now (Err f)) (sym fault)
      (answer, one, (err, unfit))

  -- why no request was read
  pub missed_next : (count : ℕ) (mid : S) (left before : Option (List ℕ)) (count' : ℕ) (left' : Option (List ℕ))
      (fault : WireFault) → MissesRequest left left' count fault
      → ServesNext takes answers lacks count mid left before count' mid left' before (Err fault)
  missed_next count mid left before count' left' (BadFrame number) misses =
      (misses.0, inl misses.1, (refl, refl))
  missed_next count mid left before count' left' ReadFault misses = (misses, (refl, refl))
  missed_next count mid left before count' left' WriteFault misses = absurd misses
  missed_next count mid left before count' left' NoMemory misses = (inl misses, (refl, refl))

  -- a request that was read and taken, with what came of it
  pub served_next : (count : ℕ) (mid : S) (left before : Option (List ℕ)) (count' : ℕ) (new : S)
      (left' now : Option (List ℕ)) (request : Request) (fault : WireFault)
      → ReadsRequest left left' (Some request) → takes mid request ≡ true
      → AnswersRequest answers lacks mid request before new now (Err fault)
      → ServesNext takes answers lacks count mid left before count' new left' now (Err fault)
  served_next count mid left before count' new left' now request (BadFrame number) read ok did = absurd did
  served_next count mid left before count' new left' now request ReadFault read ok did = absurd did
  served_next count mid left before count' new left' now request WriteFault read ok did = record {
    request = request;
    read = read;
    taken = ok;
    answer = did.0;
    answered = did.1;
    written = did.2;
  }
  served_next count mid left before count' new left' now request NoMemory read ok did =
      (inr (inl (request, read, ok, did.0)), did.1)

  -- an answer that is missed is no read fault
  pub noted_answer : (old new : S) (request : Request) (before now : Option (List ℕ)) (failed : Bool)
      (fault : WireFault) → AnswersRequest answers lacks old request before new now (Err fault)
      → NotesFault failed failed fault
  noted_answer old new request before now failed (BadFrame number) did = absurd did
  noted_answer old new request before now failed ReadFault did = absurd did
  noted_answer old new request before now failed WriteFault did = refl
  noted_answer old new request before now failed NoMemory did = refl

  pub served_well : (count : ℕ) (mid : S) (left before : Option (List ℕ)) (count' : ℕ) (new : S)
      (left' now : Option (List ℕ)) (request : Request)
      → ReadsRequest left left' (Some request) → takes mid request ≡ true → count' ≡ ticked count
      → AnswersRequest answers lacks mid request before new now (Ok tt)
      → ServesNext takes answers lacks count mid left before count' new left' now (Ok true)
  served_well count mid left before count' new left' now request read ok counts did = (
    record {
      request = request;
      read = read;
      taken = ok;
      answer = did.0;
      answered = did.1;
      written = did.2;
    },
    counts,
  )

  -- The requests so far were served, and counted.
  pub record AreServed (old : S) (left before : Option (List ℕ)) (mid : S) (left' now : Option (List ℕ))
      (count turns : ℕ) : Type 0 where
    pub requests : List Request
    pub replies : List Answer
    pub answered : AnswersEach takes answers old requests replies mid
    pub read : Consumes left left' (spell_requests requests)
    pub spelled : All IsRequest requests
    pub fit : All FitsAnswer replies
    pub written : Appends before now (spell_answers replies)
    pub count_is : count ≡ length requests
    pub turns_are : count ≡ turns

  pub served_none : (old : S) (left before : Option (List ℕ)) → AreServed old left before old left before 0 0
  served_none old left before = record {
    requests = [];
    replies = [];
    answered = refl;
    read = Consumes-nil left;
    spelled = All-nil IsRequest;
    fit = All-nil FitsAnswer;
    written = Appends-nil before;
    count_is = refl;
    turns_are = refl;
  }

  pub served_more : (old mid new : S) (left behind left' before between now : Option (List ℕ))
      (count turns count' : ℕ) → turns < 2 ^ 64 - 1
      → AreServed old left before mid behind between count turns
      → ServesNext takes answers lacks count mid behind between count' new left' now (Ok true)
      → AreServed old left before new left' now count' (turns + 1)
  served_more old mid new left behind left' before between now count turns count' few so next =
      let one = next.0 in
      record {
        requests = so.requests ++ one.request ∷ [];
        replies = so.replies ++ one.answer ∷ [];
        answered =
            answers_more old mid new so.requests so.replies one.request one.answer so.answered one.taken
            one.answered;
        read =
            subst (Consumes left left')
            (sym (flat_map-append spell_request so.requests (one.request ∷ [])
            ∙ ap (λ (l : List ℕ). spell_requests so.requests ++ l) (append-nil (spell_request one.request))))
            (Consumes-trans left behind left' (spell_requests so.requests) (spell_request one.request) so.read
            one.read.1);
        spelled = All-push IsRequest so.requests one.request so.spelled one.read.0;
        fit = All-push FitsAnswer so.replies one.answer so.fit one.written.0;
        written =
            subst (Appends before now)
            (sym (flat_map-append spell_answer so.replies (one.answer ∷ [])
            ∙ ap (λ (l : List ℕ). spell_answers so.replies ++ l) (append-nil (spell_answer one.answer))))
            (Appends-trans before between now (spell_answers so.replies) (spell_answer one.answer) so.written
            one.written.1);
        count_is = omega (
          arith,
          few,
          next.1,
          so.turns_are,
          so.count_is,
          length-append so.requests (one.request ∷ []),
        );
        turns_are = omega (arith, few, next.1, so.turns_are);
      }

  -- and so the serving ends
  pub served_all : (old mid new : S) (left behind left' before between now : Option (List ℕ)) (count turns : ℕ)
      (result : Result (Unit {0}) WireFault)
      → AreServed old left before mid behind between count turns
      → ServingEnds takes answers lacks count mid behind between new left' now result
      → ServesInput takes answers lacks old left before new left' now result
  served_all old mid new left behind left' before between now count turns result so ends = record {
    requests = so.requests;
    replies = so.replies;
    mid = mid;
    answered = so.answered;
    behind = behind;
    between = between;
    read = so.read;
    spelled = so.spelled;
    fit = so.fit;
    written = so.written;
    ended =
        subst (λ (n : ℕ). ServingEnds takes answers lacks n mid behind between new left' now result) so.count_is ends;
  }

  -- no more requests are counted
  pub served_most : (old mid : S) (left behind before between : Option (List ℕ)) (count turns : ℕ)
      → 2 ^ 64 - 1 ≤ turns → AreServed old left before mid behind between count turns
      → ServesInput takes answers lacks old left before mid behind between (Err NoMemory)
  served_most old mid left behind before between count turns many so =
      served_all old mid mid left behind behind before between between count turns (Err NoMemory) so
      (inr (inr (omega (arith, many, so.turns_are), refl)), (refl, refl))
