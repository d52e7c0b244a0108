-- Commands that were read and dealt.
use Rattle.std.proofs.Common.{◌≡◌, ◌<◌, ◌+◌, ℕ, Bool, true, List, [], ◌∷◌, ◌++◌, Option, Some, length, get_or, set, refl, sym, ap, ◌∙◌, subst}
use Rattle.std.proofs.lemmas.List.{append-nil}
use Rattle.std.proofs.lemmas.List.Concat.{flat_map-append}
use Rattle.std.proofs.lemmas.List.Elements.{All-append, All-nil, All-push}
use Rattle.std.proofs.KnownBytes.{Consumes-nil, Consumes-trans}
use Rattle.std.specs.Io.KnownBytes.{Consumes}
use Rattle.rtrb.specs.Ring.{SameProducer, sent}
use Rattle.vtl_base.specs.Steps.{ticked}
use Rattle.vtl_wire.specs.declared.requests.Request.{Request}
use Rattle.vtl_wire.specs.Reads.{ReadsRequest}
use Rattle.vtl_wire.specs.Requests.{IsRequest, spell_request, spell_requests}
use Rattle.vtl_hosts.specs.Rounds.{host_in}
use Rattle.vtl_hosts.specs.Turns.{IsCommand, count_on}
use Rattle.vtl_hosts.specs.Inner.Reading.{ReadsCommands}
use Rattle.vtl_hosts.specs.Inner.Rings.{Requests}
use Rattle.vtl_hosts.proofs.RingLemmas.{deals_none, deals_on, deals_one}

pub count_append : (count : ℕ) (xs ys : List Request) → count_on count (xs ++ ys) ≡ count_on (count_on count xs) ys
count_append count [] ys = refl
count_append count (x ∷ xs) ys = count_append (ticked count) xs ys

pub spelled_append : (xs ys : List Request) → spell_requests (xs ++ ys) ≡ spell_requests xs ++ spell_requests ys
spelled_append xs ys = flat_map-append spell_request xs ys

module _ (takes : Request → Bool) where
  pub reads_none : (count : ℕ) (rings : List Requests) (left : Option (List ℕ))
      → ReadsCommands takes count rings left count rings left
  reads_none count rings left = record {
    commands = [];
    read = Consumes-nil left;
    spelled = All-nil IsRequest;
    taken = All-nil (IsCommand takes);
    counted = refl;
    dealt = deals_none rings;
  }

  pub reads_on : (count mid count' : ℕ) (rings between rings' : List Requests) (left behind left' : Option (List ℕ))
      → ReadsCommands takes count rings left mid between behind
      → ReadsCommands takes mid between behind count' rings' left'
      → ReadsCommands takes count rings left count' rings' left'
  reads_on count mid count' rings between rings' left behind left' one two = record {
    commands = one.commands ++ two.commands;
    read =
        subst (Consumes left left') (sym (spelled_append one.commands two.commands))
        (Consumes-trans left behind left' (spell_requests one.commands) (spell_requests two.commands) one.read
        two.read);
    spelled = All-append IsRequest one.commands two.commands one.spelled two.spelled;
    taken = All-append (IsCommand takes) one.commands two.commands one.taken two.taken;
    counted =
        two.counted ∙ ap (λ (n : ℕ). count_on n two.commands) one.counted
        ∙ sym (count_append count one.commands two.commands);
    dealt = deals_on rings between rings' one.commands two.commands one.dealt two.dealt;
  }

  pub reads_one : (count count' : ℕ) (rings : List Requests) (place : ℕ) (ring new : Requests) (request : Request)
      (left left' : Option (List ℕ))
      → ReadsRequest left left' (Some request) → takes request ≡ true → count' ≡ ticked count
      → place < 64 → place < length rings → host_in request ≡ place + 1
      → ((d : Requests) → get_or rings place d ≡ ring)
      → SameProducer ring new → sent new ≡ sent ring ++ request ∷ []
      → ReadsCommands takes count rings left count' (set rings place new) left'
  reads_one count count' rings place ring new request left left' read taken counted few within host here same put =
      record {
        commands = request ∷ [];
        read = subst (Consumes left left') (sym (append-nil (spell_request request))) read.1;
        spelled = All-push IsRequest [] request (All-nil IsRequest) read.0;
        taken = All-push (IsCommand takes) [] request (All-nil (IsCommand takes))
            (record { taken = taken; place = place; host = host; within = few });
        counted = counted;
        dealt = deals_one rings place ring new request within host here same put;
      }
