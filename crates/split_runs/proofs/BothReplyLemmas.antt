-- What hosts are answered in a list of calls of halves, where both are held; and the whole list.
use Rattle.std.proofs.Common.{ℕ, List, [], ◌∷◌, Bool, true, not, Option, None, Some, refl, sym, ap, subst}
use Rattle.std.specs.Prelude.{◌&&◌}
use Rattle.tape_disk.specs.Disk.{DiskState, IsDisk}
use Rattle.scsi_sense.specs.declared.replies.Reply.{Reply}
use Rattle.volume_core.specs.declared.changes.Change.{Change}
use Rattle.volume_core.specs.declared.media.Turn.{Turn}
use Rattle.drive_commands.specs.Determined.{HonestStepsAreSteps}
use Rattle.drive_commands.specs.Events.{Event, Execute, FlushTurn, OfDrive}
use Rattle.drive_commands.specs.Execute.{HonestIn}
use Rattle.drive_commands.specs.Relations.{Made, made_nothing}
use Rattle.drive_commands.specs.State.{Machine, machine_of, medium_in}
use Rattle.drive_commands.specs.Step.{Answered, Output, Step, Unanswered}
use Rattle.drive_commands.specs.Turn.{turn_outcome}
use Rattle.drive_commands.specs.Work.{Request}
use Rattle.aptpl_store.specs.Kept.{store_kept}
use Rattle.tape_buffer.specs.Moves.{buffer_below}
use Rattle.tape_buffer.specs.State.{BufferState, state_of}
use Rattle.bay_moves.specs.Elements.{BayState}
use Rattle.split_bay.specs.Backs.{is_stuck_in, works_in}
use Rattle.split_bay.specs.Halves.{HoldsHalves, is_unreported}
use Rattle.split_bay.specs.Looks.{Looks}
use Rattle.split_runs.specs.Calls.{Alone, Both, HalfCall, HalfStep, HalvesState, KeepsHalves, Roomed, Settled, StepsBoth, StepsSettled, Told, Turned, is_told, whole_medium}
use Rattle.split_runs.specs.Replies.{RepliesOfHalves, SeenStep, Tells, seen_drive, seen_machine}
use Rattle.split_runs.proofs.PartLemmas.{joined_moves}
use Rattle.split_runs.proofs.ReplyLemmas.{alone_replies, failed_as, seen_whole, told_replies, turned_stuck}
use Rattle.split_runs.proofs.RunLemmas.{step_moves}
use Rattle.split_runs.proofs.StopLemmas.{honest_then}

module _ {D : Type 0} (state : D → DiskState) (is_disk : (disk : D) → (state disk).honest → IsDisk (state disk))
    (honest_steps : HonestStepsAreSteps (buffer_below state).honest) where
  sure_step : (medium : Option (BufferState D)) (old : Machine) (event : Event OfDrive) (output : Output) (made : Made)
      (new : Machine) → HonestIn (buffer_below state) medium
      → Step (HonestIn (buffer_below state) medium) old event output made new
      → Step (Unit {0}) old event output made new
  sure_step None old event output made new honest step = step
  sure_step (Some m) old event output made new honest step = honest_steps m old event output made new honest step

  -- a step of the drive that both halves are together
  held_step : (old new : HalvesState D) (joined left : BayState D) (event : Event OfDrive) (output : Output)
      (made : Made) → KeepsHalves state old → HonestIn (buffer_below state) (whole_medium old)
      → HoldsHalves state old.front old.back joined left new.front new.back
      → Step (HonestIn (buffer_below state) (medium_in joined.bay)) (machine_of (state_of state) store_kept joined)
      event output made (machine_of (state_of state) store_kept left)
      → Step (Unit {0}) (machine_of (state_of state) store_kept joined) event output made (seen_machine state new)
  held_step old new joined left event output made keeps honest holds step =
      let found = machine_of (state_of state) store_kept joined in
      let sure =
      honest_then state is_disk (whole_medium old) (medium_in joined.bay) (is_told old) true []
      (joined_moves state is_disk old joined old.front.sending keeps holds.joins) honest in
      subst (λ (m : Machine). Step (Unit {0}) found event output made m) (sym holds.parts.machine)
      (sure_step (medium_in joined.bay) found event output made (machine_of (state_of state) store_kept left) sure
      step)

  both_replies : (old new : HalvesState D) (request : Request) (reply : Reply) (left : List ℕ) (made : List Change)
      → KeepsHalves state old → HonestIn (buffer_below state) (whole_medium old)
      → StepsBoth state old request reply left made new
      → SeenStep (seen_drive state old) (Both request reply left) made (seen_drive state new)
  both_replies old new request reply left made keeps honest step =
      let e = step.executes in
      let answers = e.answers.step.step in (
        machine_of (state_of state) store_kept e.joined,
        e.holds.joins.looks,
        (
          answers.answer,
          answers.taken.made,
          answers.replied,
          step.made_is,
          held_step old new e.joined e.answered (Execute request) (Answered answers.answer) answers.taken.made keeps
              honest e.holds answers.taken.step,
        ),
        seen_whole state old new e.joined e.answered e.holds,
      )

  settled_replies : (old new : HalvesState D) (turn : Turn) (made : List Change) → KeepsHalves state old
      → HonestIn (buffer_below state) (whole_medium old) → StepsSettled state old turn made new
      → SeenStep (seen_drive state old) (Settled turn) made (seen_drive state new)
  settled_replies old new turn made keeps honest step =
      let e = step.settles in (
        machine_of (state_of state) store_kept e.joined,
        e.holds.joins.looks,
        held_step old new e.joined e.settled FlushTurn (Unanswered (turn_outcome turn)) made_nothing keeps honest
            e.holds e.turned.step,
        step.made_is,
        seen_whole state old new e.joined e.settled e.holds,
      )

  step_replies : (old new : HalvesState D) (call : HalfCall) (made : List Change) → KeepsHalves state old
      → HonestIn (buffer_below state) (whole_medium old) → HalfStep state old call made new
      → SeenStep (seen_drive state old) call made (seen_drive state new)
  step_replies old new (Alone request result left) made keeps honest step =
      alone_replies state old new request result left made keeps step
  step_replies old new (Turned turn) made keeps honest step = (
    λ i. record {
      machine = machine_of (state_of state) store_kept (step.front i).drive;
      stuck = turned_stuck state old.back new.back turn (works_in state old.back.medium) refl step.turns i;
    },
    step.made_is,
  )
  step_replies old new (Both request reply left) made keeps honest step =
      both_replies old new request reply left made keeps honest step
  step_replies old new (Settled turn) made keeps honest step = settled_replies old new turn made keeps honest step
  step_replies old new Roomed made keeps honest step = (
    subst (λ (m : Machine). Looks (seen_machine state old) m) (sym step.holds.parts.machine) step.holds.joins.looks,
    step.made_is,
    seen_whole state old new step.joined step.joined step.holds,
  )
  step_replies old new Told made keeps honest step = (
    subst (λ (b : Bool). Tells b (seen_drive state old) (seen_drive state new))
        (λ i. is_stuck_in state old.back.medium && not (sym (failed_as state old.front.drive.bay) i))
        (told_replies state old new (is_unreported state old.front old.back) refl step.reports),
    step.made_is,
  )

  pub halves_reply : RepliesOfHalves state
  halves_reply old new [] made keeps honest run =
      (ap (λ (h : HalvesState D). seen_drive state h) run.0, run.1)
  halves_reply old new (call ∷ calls) made keeps honest run =
      let between = run.0 in
      let moves = step_moves state is_disk old between call run.1 keeps run.3 in
      let sure =
      honest_then state is_disk (whole_medium old) (whole_medium between) (is_told old) (is_told between) run.1 moves.0
      honest in (
        seen_drive state between,
        run.1,
        run.2,
        step_replies old between call run.1 keeps honest run.3,
        halves_reply between new calls run.2 moves.1 sure run.4,
        run.5,
      )
