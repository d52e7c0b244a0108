-- What a host is answered, request by request.
use Rattle.std.proofs.Common.{◌≡◌, ◌&&◌, ℕ, nat_eq, Bool, true, false, List, [], ◌∷◌, Option, Result, Ok, Err, OnOk, refl, sym, ap, ◌∙◌, subst, arith}
use Rattle.std.proofs.lemmas.Bool.Decides.{nat_tests}
use Rattle.std.specs.List.{All}
use Rattle.std.specs.Io.KnownBytes.{Appends}
use Rattle.std.proofs.lemmas.List.Elements.{All-cons, All-nil}
use Rattle.tape_disk.specs.Disk.{DiskState}
use Rattle.library.specs.Seats.{SeatState}
use Rattle.scsi_sense.specs.declared.replies.Reply.{Reply}
use Rattle.drive_commands.specs.Execute.{asked}
use Rattle.library.specs.Counts.{has_drive}
use Rattle.library.specs.Served.{IsServed}
use Rattle.vtl_wire.specs.declared.answers.Answer.TheVariants as answer
use Rattle.vtl_wire.specs.declared.requests.Request.TheVariants.{Command, Move, Inventory}
use Rattle.vtl_wire.specs.declared.answers.Answer.{Answer}
use Rattle.vtl_wire.specs.declared.faults.WireFault.{WireFault}
use Rattle.vtl_wire.specs.declared.requests.Request.{Request}
use Rattle.vtl_wire.specs.Serving.{AnswersEach, ServesInput, spell_answers}
use Rattle.vtl_serve.proofs.InputLemmas.{spelled_whole}
use Rattle.vtl_serve.specs.OneHost.{AnswersCommand, AnswersCommands, AnswersHost, HostAnswers, OneHostState, is_from}

-- two tests that pass together: the first passes
first_passes : (a b : Bool) → (a && b) ≡ true → a ≡ true
first_passes true b is = refl
first_passes false b is = absurd (cc)

equal_of : (a b : ℕ) → nat_eq a b ≡ true → a ≡ b
equal_of a b same = grind (arith, nat_tests)

-- a command that is taken is of the host
of_host : (drives : List Bool) (nexus host drive tag : ℕ) (cdb sent : List ℕ) (request : Request)
    → request ≡ Command host drive cdb sent tag → is_from drives nexus request ≡ true → host ≡ nexus
of_host drives nexus host drive tag cdb sent request is taken =
    equal_of host nexus
    (first_passes (nat_eq host nexus) (has_drive drives drive)
    (subst (λ (r : Request). is_from drives nexus r ≡ true) is taken))

module _ {D : Type 0} (state : D → DiskState) where
  -- a command that is taken is answered for the host of the seat
  pub host_answered : (old new : OneHostState) (host drive tag : ℕ) (cdb sent : List ℕ) (request : Request)
      (reply : Reply) → request ≡ Command host drive cdb sent tag
      → is_from old.drives old.seat.nexus request ≡ true → new.drives ≡ old.drives
      → IsServed state (asked old.seat.nexus cdb sent) old.seat reply new.seat
      → AnswersHost state old request (answer.Command host reply tag) new
  host_answered old new host drive tag cdb sent request reply is taken drives served = record {
    drives = drives;
    command =
        subst (λ (r : Request). AnswersCommand state old.seat r (answer.Command host reply tag) new.seat) (sym is) (
          reply,
          refl,
          subst (λ (n : ℕ). IsServed state (asked n cdb sent) old.seat reply new.seat)
              (sym (of_host old.drives old.seat.nexus host drive tag cdb sent request is taken)) served,
        );
  }

  -- the same where the seats and the block are given by others that are equal
  pub host_answered_by : (old new : OneHostState) (seat seat' : SeatState) (host drive tag : ℕ)
      (cdb given sent : List ℕ) (request : Request) (reply : Reply) → request ≡ Command host drive cdb sent tag
      → is_from old.drives old.seat.nexus request ≡ true → new.drives ≡ old.drives → seat ≡ old.seat
      → new.seat ≡ seat' → given ≡ cdb → IsServed state (asked seat.nexus given sent) seat reply seat'
      → AnswersHost state old request (answer.Command host reply tag) new
  host_answered_by old new seat seat' host drive tag cdb given sent request reply is taken drives before after block
      served =
      host_answered old new host drive tag cdb sent request reply is taken drives
      (subst (λ (s : SeatState). IsServed state (asked old.seat.nexus cdb sent) old.seat reply s) (sym after)
      (subst (λ (s : SeatState). IsServed state (asked s.nexus cdb sent) s reply seat') before
      (subst (λ (l : List ℕ). IsServed state (asked seat.nexus l sent) seat reply seat') block served)))

  -- a seat stays its host's
  same_host : (before after : SeatState) (request : Request) (one : Answer)
      → AnswersCommand state before request one after → after.nexus ≡ before.nexus
  same_host before after (Command host drive cdb sent tag) one answered = answered.2.grows.nexus
  same_host before after (Move from to tag) one answered = absurd answered
  same_host before after (Inventory tag) one answered = absurd answered

  commands_answered : (old new : OneHostState) (requests : List Request) (answers : List Answer)
      → AnswersEach (λ (host : OneHostState) (request : Request). is_from host.drives host.seat.nexus request)
      (AnswersHost state) old requests answers new
      → AnswersCommands state old.seat requests answers new.seat
  commands_answered old new [] [] same = ap (λ (h : OneHostState). h.seat) same
  commands_answered old new (request ∷ requests) (one ∷ answers) each =
      (each.0.seat, each.2.command, commands_answered each.0 new requests answers each.3)
  commands_answered old new [] (one ∷ answers) each = absurd each
  commands_answered old new (request ∷ requests) [] each = absurd each

  -- each request that was taken is a command of the host
  taken_each : (drives : List Bool) (nexus : ℕ) (old new : OneHostState) (requests : List Request)
      (answers : List Answer) → old.drives ≡ drives → old.seat.nexus ≡ nexus
      → AnswersEach (λ (host : OneHostState) (request : Request). is_from host.drives host.seat.nexus request)
      (AnswersHost state) old requests answers new
      → All (λ request. is_from drives nexus request ≡ true) requests
  taken_each drives nexus old new [] [] same own each = All-nil (λ request. is_from drives nexus request ≡ true)
  taken_each drives nexus old new (request ∷ requests) (one ∷ answers) same own each =
      All-cons (λ request. is_from drives nexus request ≡ true) request requests
      (subst (λ (n : ℕ). is_from drives n request ≡ true) own
      (subst (λ (d : List Bool). is_from d old.seat.nexus request ≡ true) same each.1))
      (taken_each drives nexus each.0 new requests answers (each.2.drives ∙ same)
      (same_host old.seat each.0.seat request one each.2.command ∙ own) each.3)
  taken_each drives nexus old new [] (one ∷ answers) same own each = absurd each
  taken_each drives nexus old new (request ∷ requests) [] same own each = absurd each

  pub host_answers : (old : OneHostState) (left before : Option (List ℕ)) (new : OneHostState)
      (left' now : Option (List ℕ)) (result : Result (Unit {0}) WireFault)
      → ServesInput (λ (host : OneHostState) (request : Request). is_from host.drives host.seat.nexus request)
      (AnswersHost state) (λ (host : OneHostState) (request : Request). ⊥) old left before new left' now result
      → OnOk result (HostAnswers state old new left before now)
  host_answers old left before new left' now (Err fault) serves = tt
  host_answers old left before new left' now (Ok done) serves = record {
    requests = serves.requests;
    commands =
        taken_each old.drives old.seat.nexus old serves.mid serves.requests serves.replies refl refl serves.answered;
    spelled = spelled_whole left serves.behind left' serves.requests serves.read serves.spelled serves.ended.0;
    answers = serves.replies;
    answered =
        subst (λ (h : OneHostState). AnswersCommands state old.seat serves.requests serves.replies h.seat)
        (sym serves.ended.1.0)
        (commands_answered old serves.mid serves.requests serves.replies serves.answered);
    appended =
        subst (λ (l : Option (List ℕ)). Appends before l (spell_answers serves.replies)) (sym serves.ended.1.1)
        serves.written;
  }
