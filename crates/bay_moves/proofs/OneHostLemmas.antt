-- Scripts of at most one host, without moves.
use Rattle.std.proofs.Common.{◌≡◌, ◌≢◌, ◌==◌, filter, ℕ, List, [], ◌∷◌, All, Option, None, Some, OnOk, Result, Err, Ok, flat_map, length, map, refl, sym, ap, ◌∙◌, subst}
use Rattle.std.proofs.lemmas.List.{length-map}
use Rattle.std.proofs.lemmas.List.Elements.{All-map}
use Rattle.std.specs.Io.KnownBytes.{Appends}
use Rattle.vtl_base.specs.Below.{Below}
use Rattle.tape_disk.specs.Disk.{DiskState}
use Rattle.scsi_sense.specs.declared.replies.Reply.{Reply}
use Rattle.volume_core.specs.declared.changes.Change.{Change}
use Rattle.drive_commands.specs.declared.faults.Fault.{Fault}
use Rattle.drive_commands.specs.Determined.{AllAskAlike, BringsSure, HonestStepsAreSteps, InRun, IsCalm, IsSureDrive, IsSureEvent, RunsAreDetermined, RunsStaySure, seen_of, without_turns}
use Rattle.drive_commands.specs.Execute.{HonestIn}
use Rattle.drive_commands.specs.Faults.{reply_of}
use Rattle.drive_commands.specs.Relations.{Made}
use Rattle.drive_commands.specs.Run.{Run, ServedByRuns}
use Rattle.drive_commands.specs.State.{Machine, medium_in}
use Rattle.drive_commands.specs.Events.{Event, Execute, OfDrive, OfLibrary}
use Rattle.drive_commands.specs.Step.{Output, Answered, replies_of}
use Rattle.drive_commands.specs.Work.{Request}
use Rattle.tape_buffer.specs.Moves.{buffer_below}
use Rattle.tape_buffer.specs.State.{state_of}
use Rattle.aptpl_store.specs.Kept.{store_below, store_kept}
use Rattle.vtl_script.specs.declared.faults.ScriptFault.{ScriptFault}
use Rattle.vtl_script.specs.declared.lines.Line.{Line}
use Rattle.vtl_script.specs.InOrder.{commands_in, NoMoveIsRun, OneHostInOrder}
use Rattle.vtl_script.specs.Items.{items_to_run}
use Rattle.vtl_script.specs.Parsed.{parsed_lines}
use Rattle.vtl_script.specs.Runs.{RunsScript}
use Rattle.vtl_script.specs.Text.{text_of}
use Rattle.bay_moves.specs.Elements.{BayState, HeldState, bay_at}
use Rattle.bay_moves.specs.OneHost.{AnswersLines, LibraryAnswersHost, IsHonestBay, MayReply, RunsTo, beside, machine_in, requests_at}
use Rattle.bay_moves.specs.Runs.{AnswersEvents, LibraryAnswers, events_of, is_configured_in, line_event, line_request}
use Rattle.bay_moves.proofs.BesideLemmas.{beside_map, beside_nothing, dealt, same_beside}
use Rattle.bay_moves.proofs.ServedLemmas.{counted, found_same, none_asked, orders_are, served_at}

-- requests are alike to themselves
ask_alike : (requests : List Request) → AllAskAlike (map Execute requests) (map Execute requests)
ask_alike [] = tt
ask_alike (request ∷ requests) = (refl, ask_alike requests)

-- there is no flusher's turn among requests
no_turns : (requests : List Request) → without_turns (map Execute requests) ≡ map Execute requests
no_turns [] = refl
no_turns (request ∷ requests) = ap (λ (rest : List (Event OfDrive)). Execute request ∷ rest) (no_turns requests)

-- replies without a fault are the replies of the outputs
replies_among : (replies : List Reply) → replies_of (map Answered (map Ok replies)) ≡ replies
replies_among [] = refl
replies_among (reply ∷ replies) = ap (λ (rest : List Reply). reply ∷ rest) (replies_among replies)

replied : (replies : List Reply) → map reply_of (map Ok replies) ≡ replies
replied [] = refl
replied (reply ∷ replies) = ap (λ (rest : List Reply). reply ∷ rest) (replied replies)

-- and memory did not run out, no side was full, and no fault came
all_calm : (replies : List Reply) → All IsCalm (map Answered (map Ok replies))
all_calm replies =
    All-map IsCalm Answered (map Ok replies)
    (All-map (λ (answer : Result Reply Fault). IsCalm (Answered answer)) Ok replies (λ k d h. tt))

-- requests load no medium
bring_nothing : (requests : List Request) → All BringsSure (map Execute requests)
bring_nothing requests = All-map BringsSure Execute requests (λ k d h. tt)

-- a run over a medium that is honest is a run of the machine
run_over : {M : Type 0} (honest : M → Type 0) → HonestStepsAreSteps honest → (medium : M) → honest medium
    → (old : Machine) (events : List (Event OfDrive)) (outputs : List Output) (made : Made) (new : Machine)
    → Run (honest medium) old events outputs made new → Run (Unit {0}) old events outputs made new
run_over honest steps medium is old [] [] made new run = run
run_over honest steps medium is old (event ∷ events) (output ∷ outputs) made new run = (
  run.0,
  run.1,
  run.2,
  steps medium old event output run.1 run.0 is run.3,
  run_over honest steps medium is run.0 events outputs run.2 new run.4,
  run.5,
)
run_over honest steps medium is old [] (output ∷ outputs) made new run = absurd run
run_over honest steps medium is old (event ∷ events) [] made new run = absurd run

run_in : {M : Type 0} (below : Below M Change) → HonestStepsAreSteps below.honest → (medium : Option M)
    → HonestIn below medium
    → (old : Machine) (events : List (Event OfDrive)) (outputs : List Output) (made : Made) (new : Machine)
    → Run (HonestIn below medium) old events outputs made new → Run (Unit {0}) old events outputs made new
run_in below steps None is old events outputs made new run = run
run_in below steps (Some medium) is old events outputs made new run =
    run_over below.honest steps medium is old events outputs made new run

-- the laws of the machine and of scripts
pub record Laws {D : Type 0} (state : D → DiskState) : Type 0 where
  pub steps : HonestStepsAreSteps (buffer_below state).honest
  pub determined : RunsAreDetermined
  pub stay : RunsStaySure
  pub runs : ServedByRuns (state_of state) (buffer_below state) store_kept (store_below state)
  pub in_order : OneHostInOrder
  pub no_moves : NoMoveIsRun

module _ {D : Type 0} (state : D → DiskState) (laws : Laws state) where
  -- a drive may give no other replies than those that it gave
  shown_alike : (bay : BayState D) (requests : List Request) (silent others : List Reply) (made : Made) (end : Machine)
      → IsHonestBay state bay → IsSureDrive (seen_of (machine_in state bay))
      → Run (IsHonestBay state bay) (machine_in state bay) (map Execute requests) (map Answered (map Ok silent)) made
      end
      → MayReply state requests others bay → silent ≡ others
  shown_alike bay requests silent others made end honest sure run may =
      let own = map Execute requests in
      let alike : AllAskAlike (without_turns own) (without_turns may.events) =
      subst (λ (xs : List (Event OfDrive)). AllAskAlike (without_turns own) xs) (sym may.asked)
      (subst (λ (xs : List (Event OfDrive)). AllAskAlike xs own) (sym (no_turns requests)) (ask_alike requests)) in
      let answered = map Answered (map Ok silent) in
      let taken : Run (Unit {0}) (machine_in state bay) own answered made end =
      run_in (buffer_below state) laws.steps (medium_in bay.bay) honest (machine_in state bay) own answered made end
      run in
      let opens : InRun IsSureEvent (machine_in state bay) own answered made end taken =
      laws.stay (machine_in state bay) own answered made end sure (bring_nothing requests) (all_calm silent) taken in
      let same =
      laws.determined (machine_in state bay) (machine_in state bay) own may.events answered may.outputs made may.made
      end
      may.end refl alike (all_calm silent) may.calm taken opens may.run in
      sym (replies_among silent) ∙ same.outputs ∙ sym may.replied

  -- the answers of one drive
  record Hand
      (number : ℕ) (lines : List Line) (replies : List Reply) (old new : HeldState D) : Type 0 where
    answers : List (Result Reply Fault)
    replied : map reply_of answers ≡ beside number lines replies
    runs :
        (bay : BayState D) → bay_at old.bays number ≡ Some bay
        → RunsTo state number (requests_at number lines) answers bay new

  hand_of : (number : ℕ) (lines : List Line) (replies : List Reply) (old new : HeldState D)
      → AnswersEvents state old (map line_event lines) replies new
      → (found : Option (BayState D)) → bay_at old.bays number ≡ found → Hand number lines replies old new
  hand_of number lines replies old new ran None none = record {
    answers = [];
    replied = sym (beside_nothing number lines replies (none_asked state number old new lines replies ran none));
    runs = λ bay is. let both : Some bay ≡ None = sym is ∙ none in absurd (cc);
  }
  hand_of number lines replies old new ran (Some bay) is =
      let served = served_at state number bay old new lines replies ran is in
      let own =
      laws.runs bay served.left (requests_at number lines) (beside number lines replies) served.serves in
      record {
        answers = own.answers;
        replied = sym own.replied;
        runs = λ other there.
            subst (λ (b : BayState D). RunsTo state number (requests_at number lines) own.answers b new)
            (found_same bay other (sym is ∙ there))
            (record { left = served.left; is = served.is; made = own.made; run = own.run });
      }

  -- two lists of replies that each drive may have given are the same for its lines
  agree : (number : ℕ) (lines : List Line) (replies silent others : List Reply) (old new : HeldState D)
      (answers : List (Result Reply Fault))
      → AnswersEvents state old (map line_event lines) replies new → answers ≡ map Ok silent
      → ((bay : BayState D) → bay_at old.bays number ≡ Some bay
      → RunsTo state number (requests_at number lines) (beside number lines answers) bay new)
      → ((bay : BayState D) → bay_at old.bays number ≡ Some bay → requests_at number lines ≢ []
      → IsHonestBay state bay × IsSureDrive (seen_of (machine_in state bay))
      × MayReply state (requests_at number lines) (beside number lines others) bay)
      → (found : Option (BayState D)) → bay_at old.bays number ≡ found
      → beside number lines silent ≡ beside number lines others
  agree number lines replies silent others old new answers ran ended runs may None none =
      let asked = none_asked state number old new lines replies ran none in
      beside_nothing number lines silent asked ∙ sym (beside_nothing number lines others asked)
  agree number lines replies silent others old new answers ran ended runs may (Some bay) is =
      some_or_none (filter (λ line. line.drive == number) lines) refl
    where
      some_or_none : (own : List Line) → filter (λ line. line.drive == number) lines ≡ own
          → beside number lines silent ≡ beside number lines others
      some_or_none [] asked =
          beside_nothing number lines silent asked ∙ sym (beside_nothing number lines others asked)
      some_or_none (line ∷ own) asked =
          let other = may bay is (λ nothing. let none : line_request line ∷ map line_request own ≡ [] =
          sym (ap (λ (ls : List Line). map line_request ls) asked) ∙ nothing in absurd (cc)) in
          let run = runs bay is in
          let told : beside number lines answers ≡ map Ok (beside number lines silent) =
          ap (λ (given : List (Result Reply Fault)). beside number lines given) ended
          ∙ beside_map Ok number lines silent in
          shown_alike bay (requests_at number lines) (beside number lines silent) (beside number lines others) run.made
          (machine_in state run.left) other.0 other.1
          (subst (λ (given : List (Result Reply Fault)). Run (IsHonestBay state bay) (machine_in state bay)
          (map Execute (requests_at number lines)) (map Answered given) run.made (machine_in state run.left)) told
          run.run)
          other.2

  -- commands that were answered one after another
  lines_answered : (lines : List Line) (replies : List Reply) (old new : HeldState D) (before now : Option (List ℕ))
      → AnswersEvents state old (map line_event lines) replies new → Appends before now (text_of replies)
      → AnswersLines state lines old before new now
  lines_answered lines replies old new before now ran written =
      let hands : (number : ℕ) → Hand number lines replies old new =
      λ number. hand_of number lines replies old new ran (bay_at old.bays number) refl in
      let all =
      dealt reply_of lines replies (λ number. (hands number).answers) (counted state old new lines replies ran)
      (λ number. (hands number).replied) in
      let runs : (number : ℕ) (bay : BayState D) → bay_at old.bays number ≡ Some bay
      → RunsTo state number (requests_at number lines) (beside number lines all.0) bay new =
      λ number bay is.
      subst (λ (given : List (Result Reply Fault)). RunsTo state number (requests_at number lines) given bay new)
      (sym (all.2 number)) ((hands number).runs bay is) in
      let many : length replies ≡ length lines = counted state old new lines replies ran in
      record {
        answers = all.0;
        count = sym (length-map all.0 reply_of) ∙ ap (λ (rs : List Reply). length rs) all.1 ∙ many;
        written = subst (λ (rs : List Reply). Appends before now (text_of rs)) (sym all.1) written;
        runs = runs;
        sole = λ silent others ended long may.
            let given : replies ≡ silent = sym all.1 ∙ ap (map reply_of) ended ∙ replied silent in
            let size : length silent ≡ length lines = sym (ap (λ (rs : List Reply). length rs) given) ∙ many in
            let same : silent ≡ others =
            same_beside lines silent others size long
            (λ number. agree number lines replies silent others old new all.0 ran ended (runs number) (may number)
            (bay_at old.bays number) refl) in
            subst (λ (rs : List Reply). Appends before now (text_of rs)) (given ∙ same) written;
      }

  pub one_host_of : (old : HeldState D) (left before : Option (List ℕ)) (new : HeldState D) (now : Option (List ℕ))
      (result : Result (Unit {0}) ScriptFault)
      → RunsScript (is_configured_in old) (LibraryAnswers state) old left before new now result
      → OnOk result (LibraryAnswersHost state old left before new now)
  one_host_of old left before new now (Err fault) runs = tt
  one_host_of old left before new now (Ok done) runs =
      let parsed_list = parsed_lines (is_configured_in old) runs.text in
      record {
        text = runs.text;
        known = runs.known;
        answered = λ host alone.
            let events : flat_map events_of runs.items ≡ map line_event (commands_in parsed_list) =
            ap (flat_map events_of) runs.ended.2
            ∙ orders_are (items_to_run parsed_list) (laws.no_moves parsed_list alone.no_move)
            ∙ ap (map line_event) (laws.in_order host parsed_list alone.commands runs.ended.1) in
            let ran : AnswersEvents state old (map line_event (commands_in parsed_list)) runs.replies new =
            subst (λ (os : List (Event OfLibrary)). AnswersEvents state old os runs.replies new) events
            (subst (λ (held : HeldState D). AnswersEvents state old (flat_map events_of runs.items) runs.replies held)
            (sym runs.ended.3.0) runs.answered) in
            lines_answered (commands_in parsed_list) runs.replies old new before now ran runs.ended.3.1;
      }
