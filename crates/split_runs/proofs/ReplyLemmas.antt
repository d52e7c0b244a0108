-- What hosts are answered in a list of calls of halves.
use Rattle.std.proofs.Common.{◌≡◌, ◌++◌, ℕ, List, Bool, true, false, not, Option, None, Some, refl, sym, ◌∙◌, ap, subst}
use Rattle.std.specs.Prelude.{option_map, ◌&&◌}
use Rattle.std.proofs.lemmas.Bool.{and_parts}
use Rattle.tape_disk.specs.Disk.{DiskState}
use Rattle.scsi_sense.specs.declared.replies.Reply.{Reply}
use Rattle.volume_core.specs.declared.changes.Change.{Change}
use Rattle.volume_core.specs.declared.media.Turn.{Turn}
use Rattle.volume_core.specs.declared.media.Turn.TheVariants.{Device, Idle, Stored}
use Rattle.volume_core.specs.Medium.{MediumState, Turns}
use Rattle.cartridge.specs.State.{ClosedCartridge, OpenCartridge}
use Rattle.drive_commands.specs.declared.bays.Bay.{Bay}
use Rattle.drive_commands.specs.declared.bays.Bay.TheVariants.{Empty, Unloaded, Loaded}
use Rattle.drive_commands.specs.Events.{Event, Execute, OfDrive}
use Rattle.drive_commands.specs.Execute.{HonestIn}
use Rattle.drive_commands.specs.Relations.{Made}
use Rattle.drive_commands.specs.State.{Machine, bay_of, has_failed_in, machine_of, medium_in}
use Rattle.drive_commands.specs.Step.{Answered, Output, Step}
use Rattle.drive_commands.specs.Work.{Request}
use Rattle.aptpl_store.specs.Kept.{store_kept}
use Rattle.tape_buffer.specs.declared.holding.Holding.{Holding}
use Rattle.tape_buffer.specs.declared.holding.Holding.TheVariants.{Open, Closed, Away}
use Rattle.tape_buffer.specs.Detaching.{passed, passed_held}
use Rattle.tape_buffer.specs.Moves.{HonestOn, buffer_below, with_changes}
use Rattle.tape_buffer.specs.State.{BufferState, disks_in, state_held, state_of}
use Rattle.tape_buffer.specs.Taking.{DisksState}
use Rattle.bay_moves.specs.Elements.{BayState}
use Rattle.split_bay.specs.Backs.{BackState, StoresFoundIn, TurnsBack, is_stuck_in, works_in}
use Rattle.split_bay.specs.Fronts.{OwesHeld, OwesIn, passed_on}
use Rattle.split_bay.specs.Halves.{HoldsHalves, ReportsBoth, is_unreported}
use Rattle.split_bay.specs.Looks.{Looks, is_broken}
use Rattle.split_bay.specs.Spans.{Span, span_of}
use Rattle.split_runs.specs.Calls.{Alone, HalvesState, KeepsHalves, StepsAlone}
use Rattle.split_runs.specs.Replies.{IsSeenWhole, SeenStep, Tells, is_broken_in, seen_drive, seen_machine, stuck_after}
use Rattle.split_runs.proofs.PartLemmas.{WentFrom, came_back, went_from}
use Rattle.split_runs.proofs.RunLemmas.{works_well}

module _ {D : Type 0} (state : D → DiskState) where
  -- the hosts' half asks for the honesty of no disk
  step_held : (held : Holding (OpenCartridge D) (ClosedCartridge D)) (span : Span) → OwesHeld held span
      → (old : Machine) (event : Event OfDrive) (output : Output) (made : Made) (new : Machine)
      → Step (HonestOn state (disks_in held)) old event output made new → Step (Unit {0}) old event output made new
  step_held (Open c) span owes old event output made new step = absurd owes
  step_held (Closed c) span owes old event output made new step = absurd owes
  step_held (Away a) span owes old event output made new step = step

  step_away : (bay : Bay (BufferState D)) (span : Span) → OwesIn bay span
      → (old : Machine) (event : Event OfDrive) (output : Output) (made : Made) (new : Machine)
      → Step (HonestIn (buffer_below state) (medium_in bay)) old event output made new
      → Step (Unit {0}) old event output made new
  step_away Empty span owes old event output made new step = step
  step_away (Unloaded m) span owes old event output made new step =
      step_held m.held span owes old event output made new step
  step_away (Loaded m) span owes old event output made new step =
      step_held m.held span owes old event output made new step

  -- what was accepted is passed on, and hosts see the same
  seen_passed : (m : BufferState D) → state_of state (passed m) ≡ state_of state m
  seen_passed m = by m.held
    where
      by : (held : Holding (OpenCartridge D) (ClosedCartridge D))
          → state_held state (passed_held held) m.pending ≡ state_held state held m.pending
      by (Open c) = refl
      by (Closed c) = refl
      by (Away a) = refl

  bay_passed : (bay : Bay (BufferState D)) → bay_of (state_of state) (bay_of passed bay) ≡ bay_of (state_of state) bay
  bay_passed Empty = refl
  bay_passed (Unloaded m) = ap Unloaded (seen_passed m)
  bay_passed (Loaded m) = ap Loaded (seen_passed m)

  machine_passed : (drive : BayState D)
      → machine_of (state_of state) store_kept (passed_on drive) ≡ machine_of (state_of state) store_kept drive
  machine_passed drive =
      λ i. record (machine_of (state_of state) store_kept drive) { bay = bay_passed drive.bay i }

  -- a medium is as awake, and has as much failed, with more pending
  stuck_more : (m : BufferState D) (more : List Change)
      → is_broken (state_of state (with_changes m more)) ≡ is_broken (state_of state m)
  stuck_more m more = by m.held
    where
      by : (held : Holding (OpenCartridge D) (ClosedCartridge D))
          → is_broken (state_held state held (m.pending ++ more)) ≡ is_broken (state_held state held m.pending)
      by (Open c) = refl
      by (Closed c) = refl
      by (Away a) = refl

  failed_more : (m : BufferState D) (more : List Change)
      → (state_of state (with_changes m more)).failed ≡ (state_of state m).failed
  failed_more m more = by m.held
    where
      by : (held : Holding (OpenCartridge D) (ClosedCartridge D))
          → (state_held state held (m.pending ++ more)).failed ≡ (state_held state held m.pending).failed
      by (Open c) = refl
      by (Closed c) = refl
      by (Away a) = refl

  -- whether a medium that may be there is stuck
  abbrev stuck_of : Option (BufferState D) → Bool
  stuck_of None = false
  stuck_of (Some m) = is_broken (state_of state m)

  stuck_with : (medium : Option (DisksState D)) (more : List Change)
      → stuck_of (option_map (λ (m : DisksState D). with_changes m.buffer more) medium) ≡ is_stuck_in state medium
  stuck_with None more = refl
  stuck_with (Some m) more = stuck_more m.buffer more

  stuck_went : (old : Option (BufferState D)) (new : Option (DisksState D)) → WentFrom state old new
      → is_stuck_in state new ≡ stuck_of old
  stuck_went None None went = refl
  stuck_went None (Some new) went = absurd went
  stuck_went (Some old) None went = absurd went
  stuck_went (Some old) (Some new) went = ap is_broken went.1

  stuck_bay : (bay : Bay (BufferState D)) → stuck_of (medium_in bay) ≡ is_broken_in (bay_of (state_of state) bay)
  stuck_bay Empty = refl
  stuck_bay (Unloaded m) = refl
  stuck_bay (Loaded m) = refl

  -- once the disks went away, hosts see whether the disk's half is stuck
  pub seen_whole : (old new : HalvesState D) (joined left : BayState D)
      → HoldsHalves state old.front old.back joined left new.front new.back → IsSeenWhole (seen_drive state new)
  seen_whole old new joined left holds =
      stuck_went (medium_in left.bay) new.back.medium
      (went_from state left.bay new.back.medium new.front.drive.bay holds.parts.detaches)
      ∙ stuck_bay left.bay ∙ sym (ap (λ (m : Machine). is_broken_in m.bay) holds.parts.machine)

  -- a turn
  unbroken : (medium : MediumState) → medium.failed ≡ false → is_broken medium ≡ false
  unbroken medium works = (λ i. medium.awake && works i) ∙ and_false medium.awake
    where
      and_false : (b : Bool) → b && false ≡ false
      and_false true = refl
      and_false false = refl

  found_stuck : (old new : Option (DisksState D)) (found : List Change) (turn : Turn) → works_in state old ≡ true
      → StoresFoundIn state old found turn new
      → is_stuck_in state new ≡ stuck_after turn (is_stuck_in state old)
  found_stuck None new found turn works stores = absurd stores
  found_stuck (Some old) None found turn works stores = absurd stores
  found_stuck (Some old) (Some new) found turn works stores = by turn stores.answer
    where
      fine : (state_of state old.buffer).failed ≡ false
      fine = works_well (state_of state old.buffer) works

      unstuck : is_broken (state_of state old.buffer) ≡ false
      unstuck = unbroken (state_of state old.buffer) fine

      by : (t : Turn) → Turns (state_of state (with_changes old.buffer found)) t (state_of state new.buffer)
          → is_broken (state_of state new.buffer) ≡ stuck_after t (is_broken (state_of state old.buffer))
      by Idle turns =
          ap is_broken turns.1 ∙ unbroken (state_of state (with_changes old.buffer found))
          (failed_more old.buffer found ∙ fine) ∙ sym unstuck
      by (Stored n) turns = unbroken (state_of state new.buffer) turns.4.works ∙ sym unstuck
      by Device turns = λ i. turns.2.awake i && turns.2.broken i

  pub turned_stuck : (old new : BackState D) (turn : Turn) (b : Bool) → works_in state old.medium ≡ b
      → TurnsBack state b old turn new → is_stuck_in state new.medium ≡ stuck_after turn (is_stuck_in state old.medium)
  turned_stuck old new turn false works turns =
      subst (λ (t : Turn). is_stuck_in state new.medium ≡ stuck_after t (is_stuck_in state old.medium)) (sym turns.0)
      (ap (λ (b : BackState D). is_stuck_in state b.medium) turns.1)
  turned_stuck old new turn true works turns =
      found_stuck old.medium new.medium turns.2.found turn works turns.2.stores

  pub failed_as : (bay : Bay (BufferState D))
      → has_failed_in (λ m. m) (bay_of (state_of state) bay) ≡ has_failed_in (state_of state) bay
  failed_as Empty = refl
  failed_as (Unloaded m) = refl
  failed_as (Loaded m) = refl

  -- a fault is told
  pub told_replies : (old new : HalvesState D) (b : Bool) → is_unreported state old.front old.back ≡ b
      → ReportsBoth state b old.front old.back new.front new.back
      → Tells b (seen_drive state old) (seen_drive state new)
  told_replies old new false is reports =
      λ i. record {
        machine = machine_of (state_of state) store_kept (reports.0 i).drive;
        stuck = is_stuck_in state (reports.1 i).medium;
      }
  told_replies old new true is reports =
      let holds = reports.holds in
      let joined = reports.joined in
      let stuck = (and_parts (is_stuck_in state old.back.medium)
      (not (has_failed_in (state_of state) old.front.drive.bay)) is).0 in
      let back = came_back state old.front.sending.sent old.back.received old.back.medium old.front.drive.bay
      joined.bay holds.joins.attaches in (
        subst (λ (m : Machine). Looks (seen_machine state old) m) (sym holds.parts.machine) holds.joins.looks,
        reports.deferred,
        failed_as new.front.drive.bay ∙ reports.failed,
        stuck_went (medium_in joined.bay) new.back.medium
            (went_from state joined.bay new.back.medium new.front.drive.bay holds.parts.detaches)
            ∙ ap stuck_of back.medium ∙ stuck_with old.back.medium back.waiting ∙ stuck,
      )

  -- the hosts' half is asked alone
  pub alone_replies : (old new : HalvesState D) (request : Request) (result : Option Reply) (left : List ℕ)
      (made : List Change) → KeepsHalves state old → StepsAlone state old request result left made new
      → SeenStep (seen_drive state old) (Alone request result left) made (seen_drive state new)
  alone_replies old new request None left made keeps step = (
    λ i. record {
      machine = machine_of (state_of state) store_kept (step.answers.0.1 i).drive;
      stuck = is_stuck_in state (step.back i).medium;
    },
    step.answers.1,
  )
  alone_replies old new request (Some reply) left made keeps step =
      let answers = step.answers.0 in
      let answered = answers.step.1.step in
      let same : machine_of (state_of state) store_kept answers.answered ≡ seen_machine state new =
      sym (machine_passed answers.answered)
      ∙ sym (ap (λ (d : BayState D). machine_of (state_of state) store_kept d) answers.drive) in (
        (
          answered.answer,
          answered.taken.made,
          answered.replied,
          step.answers.1,
          subst
              (λ (m : Machine).
              Step (Unit {0}) (seen_machine state old) (Execute request) (Answered answered.answer)
              answered.taken.made m)
              same
              (step_away old.front.drive.bay (span_of old.front.sending.sent) keeps.front.stands.0
              (seen_machine state old) (Execute request) (Answered answered.answer) answered.taken.made
              (machine_of (state_of state) store_kept answers.answered) answered.taken.step),
        ),
        ap (λ (b : BackState D). is_stuck_in state b.medium) step.back,
      )
