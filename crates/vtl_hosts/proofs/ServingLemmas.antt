-- Turns, one after another, and how the serving ends behind them.
use Rattle.std.proofs.Common.{◌≡◌, ℕ, Bool, List, [], ◌∷◌, ◌++◌, Option, Result, refl, sym, ap, ◌∙◌, subst, append_assoc}
use Rattle.std.proofs.lemmas.List.Elements.{All-append, All-nil}
use Rattle.std.proofs.KnownBytes.{Appends-nil, Appends-trans, Consumes-nil, Consumes-trans}
use Rattle.std.specs.List.{All}
use Rattle.std.specs.Io.KnownBytes.{Appends, Consumes}
use Rattle.vtl_wire.specs.declared.answers.Answer.{Answer}
use Rattle.vtl_wire.specs.declared.faults.WireFault.{WireFault}
use Rattle.vtl_wire.specs.declared.requests.Request.{Request}
use Rattle.vtl_wire.specs.Requests.{IsRequest, spell_requests}
use Rattle.vtl_hosts.specs.Rounds.{spell_given}
use Rattle.vtl_hosts.specs.Turns.{AnswersTurns, FitsTurn, HostsState, ServesHosts, Turn, count_on, request_in, requests_of, spell_alone, spell_turns}
use Rattle.vtl_hosts.specs.Inner.Serving.{EndsServing, ServesTurns}
use Rattle.vtl_hosts.proofs.ReadLemmas.{count_append, spelled_append}

requests_append : (xs ys : List Turn) → requests_of (xs ++ ys) ≡ requests_of xs ++ requests_of ys
requests_append [] ys = refl
requests_append (x ∷ xs) ys =
    ap (λ (l : List Request). x.commands ++ (request_in x.alone ++ l)) (requests_append xs ys)
    ∙ ap (λ (l : List Request). x.commands ++ l)
    (sym (append_assoc (request_in x.alone) (requests_of xs) (requests_of ys)))
    ∙ sym (append_assoc x.commands (request_in x.alone ++ requests_of xs) (requests_of ys))

turns_append : (xs ys : List Turn) → spell_turns (xs ++ ys) ≡ spell_turns xs ++ spell_turns ys
turns_append [] ys = refl
turns_append (x ∷ xs) ys =
    ap (λ (l : List ℕ). spell_given x.given ++ (spell_alone x.alone ++ l)) (turns_append xs ys)
    ∙ ap (λ (l : List ℕ). spell_given x.given ++ l)
    (sym (append_assoc (spell_alone x.alone) (spell_turns xs) (spell_turns ys)))
    ∙ sym (append_assoc (spell_given x.given) (spell_alone x.alone ++ spell_turns xs) (spell_turns ys))

module _ {S G : Type 0} (serves : S → Request → Answer → S → Type 0) (takes : G → Request → Bool)
    (answers : G → Request → Answer → G → Type 0) (lacks : G → Request → Type 0) where
  turns_on_from : (old mid new : HostsState S G) (xs ys : List Turn) → AnswersTurns serves takes answers old xs mid
      → AnswersTurns serves takes answers mid ys new → AnswersTurns serves takes answers old (xs ++ ys) new
  turns_on_from old mid new [] ys same two =
      subst (λ (s : HostsState S G). AnswersTurns serves takes answers s ys new) same two
  turns_on_from old mid new (x ∷ xs) ys one two = (one.0, one.1, turns_on_from one.0 mid new xs ys one.2 two)

  pub turns_none : (count : ℕ) (old : HostsState S G) (left before : Option (List ℕ))
      → ServesTurns serves takes answers lacks count old left before count old left before
  turns_none count old left before = record {
    turns = [];
    answered = refl;
    read = Consumes-nil left;
    spelled = All-nil IsRequest;
    written = Appends-nil before;
    fit = All-nil FitsTurn;
    counted = refl;
  }

  pub turns_on : (count mid_count count' : ℕ) (old mid new : HostsState S G)
      (left behind left' before between now : Option (List ℕ))
      → ServesTurns serves takes answers lacks count old left before mid_count mid behind between
      → ServesTurns serves takes answers lacks mid_count mid behind between count' new left' now
      → ServesTurns serves takes answers lacks count old left before count' new left' now
  turns_on count mid_count count' old mid new left behind left' before between now one two = record {
    turns = one.turns ++ two.turns;
    answered = turns_on_from old mid new one.turns two.turns one.answered two.answered;
    read =
        subst (Consumes left left')
        (sym (ap spell_requests (requests_append one.turns two.turns)
        ∙ spelled_append (requests_of one.turns) (requests_of two.turns)))
        (Consumes-trans left behind left' (spell_requests (requests_of one.turns))
        (spell_requests (requests_of two.turns)) one.read two.read);
    spelled =
        subst (All IsRequest) (sym (requests_append one.turns two.turns))
        (All-append IsRequest (requests_of one.turns) (requests_of two.turns) one.spelled two.spelled);
    written =
        subst (Appends before now) (sym (turns_append one.turns two.turns))
        (Appends-trans before between now (spell_turns one.turns) (spell_turns two.turns) one.written two.written);
    fit = All-append FitsTurn one.turns two.turns one.fit two.fit;
    counted =
        two.counted ∙ ap (λ (n : ℕ). count_on n (requests_of two.turns)) one.counted
        ∙ sym (count_append count (requests_of one.turns) (requests_of two.turns))
        ∙ ap (count_on count) (sym (requests_append one.turns two.turns));
  }

  -- turns, and how the serving ends behind them
  pub serves_all : (mid_count : ℕ) (old mid new : HostsState S G)
      (left behind left' before between now : Option (List ℕ))
      (result : Result (Unit {0}) WireFault)
      → ServesTurns serves takes answers lacks 0 old left before mid_count mid behind between
      → EndsServing serves takes answers lacks mid_count mid behind between new left' now result
      → ServesHosts serves takes answers lacks old left before new left' now result
  serves_all mid_count old mid new left behind left' before between now result turns ends = record {
    turns = turns.turns;
    mid = mid;
    behind = behind;
    between = between;
    answered = turns.answered;
    read = turns.read;
    spelled = turns.spelled;
    written = turns.written;
    fit = turns.fit;
    ended =
        subst (λ (n : ℕ). EndsServing serves takes answers lacks n mid behind between new left' now result)
        turns.counted
        ends;
  }
