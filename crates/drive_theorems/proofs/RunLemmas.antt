-- Runs: two in a row are one, and what a drive answers to hosts is one.
use Rattle.std.proofs.Common.{◌≡◌, ◌++◌, ◌∙◌, List, [], ◌∷◌, map, Option, None, Some, refl, sym, ap, subst, append_assoc}
use Rattle.vtl_base.specs.Below.{Below}
use Rattle.scsi_sense.specs.declared.replies.Reply.{Reply}
use Rattle.pr_core.specs.declared.states.PrState.{PrState}
use Rattle.pr_core.specs.Keepers.{KeeperState}
use Rattle.volume_core.specs.declared.changes.Change.{Change}
use Rattle.volume_core.specs.Medium.{MediumState, turn_met_fault}
use Rattle.drive_commands.specs.State.{Machine, machine_of, medium_in}
use Rattle.drive_commands.specs.Faults.{reply_of}
use Rattle.drive_commands.specs.Relations.{Made, made_nothing, made_after}
use Rattle.drive_commands.specs.Events.{Event, Execute, FlushTurn, Insert, Load, OfDrive, PowerOn, Unload}
use Rattle.drive_commands.specs.Step.{Output, Answered, Unanswered}
use Rattle.drive_commands.specs.Turn.{turn_outcome}
use Rattle.drive_commands.specs.Execute.{AdvancesIn, HonestIn, is_device_fault}
use Rattle.drive_commands.specs.Run.{Run, RunsAppend, ServedByRuns, EventsAreRuns}
use Rattle.drive_theorems.proofs.StepLemmas.{step_where}

-- what three steps in a row make
made_after_after : (first second third : Made)
    → made_after (made_after first second) third ≡ made_after first (made_after second third)
made_after_after first second third =
    λ i. record {
      changes = append_assoc first.changes second.changes third.changes i;
      saved = append_assoc first.saved second.saved third.saved i;
    }

-- two runs in a row are one
pub run_append : (H : Type 0) (old mid new : Machine) (first rest : List (Event OfDrive)) (outputs others : List Output)
    (made more : Made) → Run H old first outputs made mid → Run H mid rest others more new
    → Run H old (first ++ rest) (outputs ++ others) (made_after made more) new
run_append H old mid new [] rest [] others made more one two =
    let from_old : Run H old rest others more new = subst (λ (s : Machine). Run H s rest others more new) one.1 two in
    subst (λ (first : Made). Run H old rest others (made_after first more) new) (sym one.0) from_old
run_append H old mid new (i ∷ is) rest (o ∷ os) others made more one two =
    let next = one.0 in
    let first = one.1 in
    let left = one.2 in (
      next,
      first,
      made_after left more,
      one.3,
      run_append H next mid new is rest os others left more one.4 two,
      ap (λ (x : Made). made_after x more) one.5 ∙ made_after_after first left more,
    )
run_append H old mid new [] rest (o ∷ os) others made more one two = absurd one
run_append H old mid new (i ∷ is) rest [] others made more one two = absurd one

pub runs_append : RunsAppend
runs_append old mid new first rest outputs others made more one two =
    run_append (Unit {0}) old mid new first rest outputs others made more one two

-- a run over a medium that is honest wherever another fact holds
pub run_where : (H H' : Type 0) → (H → H') → (old : Machine) (events : List (Event OfDrive)) (outputs : List Output)
    (made : Made) (new : Machine) → Run H' old events outputs made new → Run H old events outputs made new
run_where H H' so old [] [] made new run = run
run_where H H' so old (i ∷ is) (o ∷ os) made new run = (
  run.0,
  run.1,
  run.2,
  step_where H H' so old i o run.1 run.0 run.3,
  run_where H H' so run.0 is os run.2 new run.4,
  run.5,
)
run_where H H' so old [] (o ∷ os) made new run = absurd run
run_where H H' so old (i ∷ is) [] made new run = absurd run

module _ {M K : Type 0}
    (state : M → MediumState) (below : Below M Change) (kept : K → KeeperState) (keeps : Below K PrState) where
  -- honesty stays over a call
  honest_on : (old new : Option M) (made : List Change) (fault : _) → AdvancesIn below old made fault new
      → HonestIn below old → HonestIn below new
  honest_on (Some old) (Some new) made fault h honest = h.honesty.0 honest
  honest_on None None made fault h honest = honest
  honest_on (Some old) None made fault h honest = absurd h
  honest_on None (Some new) made fault h honest = absurd h

  -- what one drive answers to hosts is a run of its machine
  pub served_runs : ServedByRuns state below kept keeps
  served_runs old new [] [] h =
      record { answers = []; replied = refl; made = made_nothing; run = (refl, ap (machine_of state kept) h) }
  served_runs old new (request ∷ requests) (reply ∷ replies) h =
      let mid = h.0 in
      let here = h.1 in
      let rest = served_runs mid new requests replies h.2 in
      let so = honest_on (medium_in old.bay) (medium_in mid.bay) here.taken.made.changes (is_device_fault here.answer)
      here.taken.advances in
      record {
        answers = here.answer ∷ rest.answers;
        replied =
            ap (λ (x : Reply). x ∷ replies) here.replied
            ∙ ap (λ (xs : List Reply). reply_of here.answer ∷ xs) rest.replied;
        made = made_after here.taken.made rest.made;
        run = (
          machine_of state kept mid,
          here.taken.made,
          rest.made,
          here.taken.step,
          run_where (HonestIn below (medium_in old.bay)) (HonestIn below (medium_in mid.bay)) so (machine_of state
              kept mid)
              (map Execute requests) (map Answered rest.answers) rest.made (machine_of state kept new) rest.run,
          refl,
        );
      }
  served_runs old new [] (reply ∷ replies) h = absurd h
  served_runs old new (request ∷ requests) [] h = absurd h

  -- events of one drive are a run of its machine
  pub events_run : EventsAreRuns state below kept keeps
  events_run old new [] [] h =
      record { outputs = []; replied = refl; made = made_nothing; run = (refl, ap (machine_of state kept) h) }
  events_run old new (Execute request ∷ events) (Some reply ∷ replies) h =
      let mid = h.0 in
      let here = h.1 in
      let rest = events_run mid new events replies h.2 in
      let so = honest_on (medium_in old.bay) (medium_in mid.bay) here.taken.made.changes (is_device_fault here.answer)
      here.taken.advances in
      record {
        outputs = Answered here.answer ∷ rest.outputs;
        replied =
            ap (λ (x : Reply). Some x ∷ replies) here.replied
            ∙ ap (λ (xs : List (Option Reply)). Some (reply_of here.answer) ∷ xs) rest.replied;
        made = made_after here.taken.made rest.made;
        run = (
          machine_of state kept mid,
          here.taken.made,
          rest.made,
          here.taken.step,
          run_where (HonestIn below (medium_in old.bay)) (HonestIn below (medium_in mid.bay)) so (machine_of state
              kept mid)
              events rest.outputs rest.made (machine_of state kept new) rest.run,
          refl,
        );
      }
  events_run old new (FlushTurn ∷ events) (None ∷ replies) h =
      let mid = h.0 in
      let turn = h.1.0 in
      let here = h.1.1 in
      let rest = events_run mid new events replies h.2 in
      let so = honest_on (medium_in old.bay) (medium_in mid.bay) [] (turn_met_fault turn) here.advances in
      record {
        outputs = Unanswered (turn_outcome turn) ∷ rest.outputs;
        replied = ap (λ (xs : List (Option Reply)). None ∷ xs) rest.replied;
        made = made_after made_nothing rest.made;
        run = (
          machine_of state kept mid,
          made_nothing,
          rest.made,
          here.step,
          run_where (HonestIn below (medium_in old.bay)) (HonestIn below (medium_in mid.bay)) so (machine_of state
              kept mid)
              events rest.outputs rest.made (machine_of state kept new) rest.run,
          refl,
        );
      }
  events_run old new [] (reply ∷ replies) h = absurd h
  events_run old new (event ∷ events) [] h = absurd h
  events_run old new (Execute request ∷ events) (None ∷ replies) h = absurd h.1
  events_run old new (FlushTurn ∷ events) (Some reply ∷ replies) h = absurd h.1
  events_run old new (Load medium ∷ events) (reply ∷ replies) h = absurd h.1
  events_run old new (Insert medium ∷ events) (reply ∷ replies) h = absurd h.1
  events_run old new (Unload ∷ events) (reply ∷ replies) h = absurd h.1
  events_run old new (PowerOn medium keeper ∷ events) (reply ∷ replies) h = absurd h.1
