-- What a drive answers, request by request, is a run of its machine.
use Rattle.std.proofs.Common.{◌≡◌, ℕ, true, List, [], ◌∷◌, Option, Result, Ok, Err, OnOk, map, refl, sym, ap, ◌∙◌, subst}
use Rattle.std.specs.List.{All}
use Rattle.std.specs.Io.KnownBytes.{Appends}
use Rattle.std.proofs.lemmas.List.Elements.{All-cons, All-nil}
use Rattle.tape_disk.specs.Disk.{DiskState}
use Rattle.scsi_sense.specs.declared.replies.Reply.{Reply}
use Rattle.drive_commands.specs.Faults.{reply_of}
use Rattle.drive_commands.specs.Run.{Serves, ServedByRuns}
use Rattle.tape_buffer.specs.Moves.{buffer_below}
use Rattle.tape_buffer.specs.State.{state_of}
use Rattle.aptpl_store.specs.Kept.{store_below, store_kept}
use Rattle.bay_moves.specs.Elements.{BayState}
use Rattle.vtl_wire.specs.declared.answers.Answer.{Answer}
use Rattle.vtl_wire.specs.declared.faults.WireFault.{WireFault}
use Rattle.vtl_wire.specs.declared.requests.Request.{Request}
use Rattle.vtl_wire.specs.declared.requests.Request.TheVariants.{Command, Move, Inventory}
use Rattle.vtl_wire.specs.Serving.{AnswersEach, ServesInput, spell_answers}
use Rattle.vtl_serve.proofs.InputLemmas.{spelled_whole}
use Rattle.vtl_serve.specs.OneBay.{AnswersOf, BayAnswers, OneBayState, answers_with, all_asked, is_for}

module _ {D : Type 0} (state : D → DiskState) where
  -- the replies to commands that were answered
  record Replied (old : OneBayState D) (requests : List Request) (answers : List Answer) (new : OneBayState D) : Type
      0 where
    replies : List Reply
    serves :
        Serves (state_of state) (buffer_below state) store_kept (store_below state) old.bay (all_asked requests) replies
        new.bay
    are : answers ≡ answers_with requests replies

  replied : (old new : OneBayState D) (requests : List Request) (answers : List Answer)
      → AnswersEach (λ bay request. is_for bay.number request) (AnswersOf state) old requests answers new
      → Replied old requests answers new
  replied old new [] [] same =
      record { replies = []; serves = ap (λ (b : OneBayState D). b.bay) same; are = refl }
  replied old new (Command host drive cdb sent tag ∷ requests) (one ∷ answers) each =
      let rest = replied each.0 new requests answers each.3 in
      let reply = each.2.0 in
      record {
        replies = reply ∷ rest.replies;
        serves = (each.0.bay, each.2.3, rest.serves);
        are = λ i. each.2.1 i ∷ rest.are i;
      }
  replied old new (Move from to tag ∷ requests) (one ∷ answers) each = absurd each.2
  replied old new (Inventory tag ∷ requests) (one ∷ answers) each = absurd each.2
  replied old new [] (one ∷ answers) each = absurd each
  replied old new (request ∷ requests) [] each = absurd each

  -- each request that was taken is a command to the drive
  taken_each : (number : ℕ) (old new : OneBayState D) (requests : List Request) (answers : List Answer)
      → old.number ≡ number
      → AnswersEach (λ bay request. is_for bay.number request) (AnswersOf state) old requests answers new
      → All (λ request. is_for number request ≡ true) requests
  taken_each number old new [] [] same each = All-nil (λ request. is_for number request ≡ true)
  taken_each number old new (Command host drive cdb sent tag ∷ requests) (one ∷ answers) same each =
      All-cons (λ request. is_for number request ≡ true) (Command host drive cdb sent tag) requests
      (subst (λ (n : ℕ). is_for n (Command host drive cdb sent tag) ≡ true) same each.1)
      (taken_each number each.0 new requests answers (each.2.2 ∙ same) each.3)
  taken_each number old new (Move from to tag ∷ requests) (one ∷ answers) same each = absurd each.2
  taken_each number old new (Inventory tag ∷ requests) (one ∷ answers) same each = absurd each.2
  taken_each number old new [] (one ∷ answers) same each = absurd each
  taken_each number old new (request ∷ requests) [] same each = absurd each

  pub bay_answers :
      ServedByRuns (state_of state) (buffer_below state) store_kept (store_below state)
      → (old : OneBayState D) (left before : Option (List ℕ)) (new : OneBayState D) (left' now : Option (List ℕ))
      (result : Result (Unit {0}) WireFault)
      → ServesInput (λ bay request. is_for bay.number request) (AnswersOf state) (λ bay request. ⊥) old left before new
      left' now result
      → OnOk result (BayAnswers state old left before new now)
  bay_answers law old left before new left' now (Err fault) serves = tt
  bay_answers law old left before new left' now (Ok done) serves =
      let came = replied old serves.mid serves.requests serves.replies serves.answered in
      let all : Serves (state_of state) (buffer_below state) store_kept (store_below state) old.bay
      (all_asked serves.requests) came.replies new.bay =
      subst
      (λ (b : BayState D). Serves (state_of state) (buffer_below state) store_kept (store_below state) old.bay
      (all_asked serves.requests) came.replies b)
      (sym (ap (λ (b : OneBayState D). b.bay) serves.ended.1.0)) came.serves in
      let run = law old.bay new.bay (all_asked serves.requests) came.replies all in
      record {
        requests = serves.requests;
        commands = taken_each old.number old serves.mid serves.requests serves.replies refl serves.answered;
        spelled =
            spelled_whole left serves.behind left' serves.requests serves.read serves.spelled serves.ended.0;
        answers = run.answers;
        made = run.made;
        run = run.run;
        written =
            subst (λ (l : Option (List ℕ)). Appends before l (spell_answers (answers_with serves.requests
            (map reply_of run.answers)))) (sym serves.ended.1.1)
            (subst (λ (rs : List Reply). Appends before serves.between (spell_answers (answers_with serves.requests
            rs))) run.replied
            (subst (λ (l : List Answer). Appends before serves.between (spell_answers l)) came.are
            serves.written));
      }
