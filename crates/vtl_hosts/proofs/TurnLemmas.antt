-- How one turn ends.
use Rattle.std.proofs.Common.{◌≡◌, inl, inr, ℕ, Bool, true, false, not, List, [], ◌∷◌, ◌++◌, Option, None, Some, Result, Ok, Err, refl, sym, ap, ◌∙◌, subst}
use Rattle.std.proofs.lemmas.List.{append-nil}
use Rattle.std.proofs.lemmas.List.Elements.{All-nil, All-push}
use Rattle.std.proofs.KnownBytes.{Appends-trans, Consumes-trans}
use Rattle.std.specs.List.{All}
use Rattle.std.specs.Io.KnownBytes.{Appends, Consumes}
use Rattle.vtl_wire.specs.declared.answers.Answer.{Answer}
use Rattle.vtl_wire.specs.declared.faults.WireFault.{WireFault}
use Rattle.vtl_wire.specs.declared.faults.WireFault.TheVariants.{BadFrame, ReadFault, WriteFault, NoMemory}
use Rattle.vtl_wire.specs.declared.requests.Request.{Request}
use Rattle.vtl_wire.specs.Answers.{spell_answer}
use Rattle.vtl_wire.specs.Reads.{NotesFault}
use Rattle.vtl_wire.specs.Requests.{IsRequest, spell_request, spell_requests}
use Rattle.vtl_hosts.specs.declared.reading.Break.{Break}
use Rattle.vtl_hosts.specs.declared.reading.Break.TheVariants.{Ended, Again, Next}
use Rattle.vtl_hosts.specs.Rounds.{spell_given}
use Rattle.vtl_hosts.specs.Turns.{FitsTurn, HostsState, count_on}
use Rattle.vtl_hosts.specs.Inner.Idle.{RunsRound}
use Rattle.vtl_hosts.specs.Inner.Serving.{AnswersOfNoHost, EndsServing, ServesTurns}
use Rattle.vtl_hosts.proofs.ReadLemmas.{count_append, spelled_append}

pub is_so : (b : Bool) → not b ≡ false → b ≡ true
is_so true is = refl
is_so false is = absurd (cc)

pub is_not : (b : Bool) → not b ≡ true → b ≡ false
is_not true is = absurd (cc)
is_not false is = refl

-- a read fault of a round is noted
pub noted_read : (before now : Bool) (fault : WireFault) → NotesFault before now fault → fault ≡ ReadFault → now ≡ true
noted_read before now fault noted is = rw is at noted

-- an answer that is missed is no read fault
pub noted_alone : {G : Type 0} (answers : G → Request → Answer → G → Type 0) (lacks : G → Request → Type 0)
    (old new : G) (request : Request) (before now : Option (List ℕ)) (fault : WireFault)
    → AnswersOfNoHost answers lacks old request before new now (Err fault) → fault ≡ ReadFault → ⊥
noted_alone answers lacks old new request before now fault alone is = rw is at alone

module _ {S G : Type 0} (serves : S → Request → Answer → S → Type 0) (takes : G → Request → Bool)
    (answers : G → Request → Answer → G → Type 0) (lacks : G → Request → Type 0) where
  module _ (count : ℕ) (old : HostsState S G) (left before : Option (List ℕ)) (hosts : List S) where
    -- a write failed
    pub turn_failed : (count' : ℕ) (left' now : Option (List ℕ)) (read : Result Break WireFault)
        → RunsRound serves takes answers count old left before count' (record { hosts = hosts; desk = old.desk }) left'
        now read false
        → EndsServing serves takes answers lacks count old left before (record { hosts = hosts; desk = old.desk })
        left' now
        (Err WriteFault)
    turn_failed count' left' now read runs =
        inr (record { behind = runs.0; desk = refl; part = runs.1; ended = runs.2; result_is = refl })

    pub turn_ended : (count' : ℕ) (left' now : Option (List ℕ))
        → RunsRound serves takes answers count old left before count' (record { hosts = hosts; desk = old.desk }) left'
        now (Ok Ended) true
        → EndsServing serves takes answers lacks count old left before (record { hosts = hosts; desk = old.desk })
        left' now
        (Ok tt)
    turn_ended count' left' now runs =
        inl (record {
          mid = record { hosts = hosts; desk = old.desk };
          behind = runs.0;
          between = now;
          desk = refl;
          whole = runs.1;
          ended = (runs.2, refl, refl);
        })

    -- no more is read in this round, and the next turn begins
    pub turn_again : (count' : ℕ) (left' now : Option (List ℕ))
        → RunsRound serves takes answers count old left before count' (record { hosts = hosts; desk = old.desk }) left'
        now (Ok Again) true
        → ServesTurns serves takes answers lacks count old left before count' (record {
          hosts = hosts;
          desk =
              old.desk;
        })
        left' now
    turn_again count' left' now runs =
        let none : runs.1.commands ++ [] ≡ runs.1.commands = append-nil runs.1.commands in
        record {
          turns = record { commands = runs.1.commands; given = runs.1.given; alone = None } ∷ [];
          answered = (
            record { hosts = hosts; desk = old.desk },
            record { commands = runs.1.taken; hosts = runs.1.hosts; alone = refl },
            refl,
          );
          read =
              subst (λ (l : List Request). Consumes left left' (spell_requests l)) (sym none)
              (subst (λ (o : Option (List ℕ)). Consumes left o (spell_requests runs.1.commands)) (sym runs.2.0)
              runs.1.read);
          spelled = subst (All IsRequest) (sym none) runs.1.spelled;
          written =
              subst (Appends before now) (sym (append-nil (spell_given runs.1.given))) runs.1.written.1;
          fit = All-push FitsTurn []
              (record { commands = runs.1.commands; given = runs.1.given; alone = None }) (All-nil FitsTurn)
              (record { given = runs.1.written.0; alone = tt });
          counted = runs.2.1 ∙ ap (count_on count) (sym none);
        }

    -- why no more was read
    pub turn_missed : (count' : ℕ) (left' now : Option (List ℕ)) (fault : WireFault)
        → RunsRound serves takes answers count old left before count' (record { hosts = hosts; desk = old.desk }) left'
        now (Err fault) true
        → EndsServing serves takes answers lacks count old left before (record { hosts = hosts; desk = old.desk })
        left' now
        (Err fault)
    turn_missed count' left' now (BadFrame number) runs =
        inl (record {
          mid = record { hosts = hosts; desk = old.desk };
          behind = runs.0;
          between = now;
          desk = refl;
          whole = runs.1;
          ended = (runs.2.0, runs.2.1, refl, refl);
        })
    turn_missed count' left' now ReadFault runs =
        inl (record {
          mid = record { hosts = hosts; desk = old.desk };
          behind = runs.0;
          between = now;
          desk = refl;
          whole = runs.1;
          ended = (runs.2, refl, refl);
        })
    turn_missed count' left' now WriteFault runs = absurd runs.2
    turn_missed count' left' now NoMemory runs =
        inl (record {
          mid = record { hosts = hosts; desk = old.desk };
          behind = runs.0;
          between = now;
          desk = refl;
          whole = runs.1;
          ended = (inl runs.2, refl, refl);
        })

    module _ (count' : ℕ) (left' between now : Option (List ℕ)) (request : Request) (desk : G)
        (runs : RunsRound serves takes answers count old left before count'
        (record { hosts = hosts; desk = old.desk }) left' between (Ok (Next request)) true) where
      -- a move or an inventory was not answered, or its answer not written
      pub turn_cut : (fault : WireFault)
          → AnswersOfNoHost answers lacks old.desk request between desk now (Err fault)
          → EndsServing serves takes answers lacks count old left before (record { hosts = hosts; desk = desk })
          left' now
          (Err fault)
      turn_cut (BadFrame number) alone = absurd alone
      turn_cut ReadFault alone = absurd alone
      turn_cut WriteFault alone =
          inl (record {
            mid = record { hosts = hosts; desk = old.desk };
            behind = runs.0;
            between = between;
            desk = refl;
            whole = runs.1;
            ended = (
              refl,
              record {
                reads = record {
                  request = request;
                  read = runs.2.0;
                  alone = record { taken = runs.2.1; host = runs.2.2 };
                };
                answer = alone.0;
                answered = alone.1;
                part = alone.2;
              },
            );
          })
      turn_cut NoMemory alone =
          inl (record {
            mid = record { hosts = hosts; desk = old.desk };
            behind = runs.0;
            between = between;
            desk = refl;
            whole = runs.1;
            ended = (
              inr (record {
                reads = record {
                  request = request;
                  read = runs.2.0;
                  alone = record { taken = runs.2.1; host = runs.2.2 };
                };
                lack = alone.0;
              }),
              ap (λ (g : G). record { hosts = hosts; desk = g }) alone.1,
              alone.2,
            );
          })

      pub turn_done : AnswersOfNoHost answers lacks old.desk request between desk now (Ok tt)
          → ServesTurns serves takes answers lacks count old left before count' (record {
            hosts = hosts;
            desk = desk;
          }) left'
          now
      turn_done alone = record {
        turns =
            record {
              commands = runs.1.commands;
              given = runs.1.given;
              alone = Some (record { request = request; answer = alone.0 });
            } ∷ [];
        answered = (
          record { hosts = hosts; desk = desk },
          record {
            commands = runs.1.taken;
            hosts = runs.1.hosts;
            alone = (record { taken = runs.2.1; host = runs.2.2 }, alone.1);
          },
          refl,
        );
        read =
            subst (Consumes left left')
            (sym (spelled_append runs.1.commands (request ∷ [])
            ∙ ap (λ (l : List ℕ). spell_requests runs.1.commands ++ l) (append-nil (spell_request request))))
            (Consumes-trans left runs.0 left' (spell_requests runs.1.commands) (spell_request request) runs.1.read
            runs.2.0.1);
        spelled = All-push IsRequest runs.1.commands request runs.1.spelled runs.2.0.0;
        written =
            Appends-trans before between now (spell_given runs.1.given) (spell_answer alone.0 ++ []) runs.1.written.1
            (subst (Appends between now) (sym (append-nil (spell_answer alone.0))) alone.2.1);
        fit = All-push FitsTurn []
            (record {
              commands = runs.1.commands;
              given = runs.1.given;
              alone = Some (record { request = request; answer = alone.0 });
            }) (All-nil FitsTurn) (record { given = runs.1.written.0; alone = alone.2.0 });
        counted = runs.2.3 ∙ sym (count_append count runs.1.commands (request ∷ []));
      }
