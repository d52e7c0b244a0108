-- The core of a cartridge, through lists of calls of the two halves of its drive.
use Rattle.std.proofs.Common.{◌≡◌, ◌++◌, ℕ, List, [], ◌∷◌, map, Bool, true, false, Option, None, Some, refl, sym, ◌∙◌, ap, subst, append_assoc}
use Rattle.std.specs.Prelude.{option_map, ◌&&◌, not}
use Rattle.std.proofs.lemmas.Bool.{and_parts}
use Rattle.std.proofs.lemmas.List.{append-nil}
use Rattle.tape_disk.specs.Disk.{DiskState, IsDisk}
use Rattle.scsi_sense.specs.declared.replies.Reply.{Reply}
use Rattle.volume_core.specs.declared.changes.Change.{Change}
use Rattle.volume_core.specs.declared.media.Turn.{Turn}
use Rattle.volume_core.specs.Medium.{MediumState}
use Rattle.drive_commands.specs.State.{medium_in}
use Rattle.drive_commands.specs.Work.{Request}
use Rattle.tape_buffer.specs.Moves.{MovesOn, as_told, medium_core, with_changes}
use Rattle.tape_buffer.specs.State.{disks_in, state_of}
use Rattle.tape_buffer.specs.Taking.{DisksState}
use Rattle.bay_moves.specs.Elements.{BayState}
use Rattle.split_bay.specs.declared.items.Item.{Item}
use Rattle.split_bay.specs.declared.items.Item.TheVariants.{Sent}
use Rattle.split_bay.specs.Backs.{BackState, FollowsIn, KeepsDiskHalf, StoresFoundIn, TurnsBack, works_in}
use Rattle.split_bay.specs.Fronts.{FrontState, KeepsHostsHalf}
use Rattle.split_bay.specs.Halves.{HoldsHalves, ReportsBoth, is_unreported}
use Rattle.split_bay.specs.Spans.{Span, medium_begun, span_of}
use Rattle.split_runs.specs.Calls.{Alone, Both, HalfCall, HalfStep, HalvesState, KeepsHalves, PartsAgain, Roomed, Settled, StepsBoth, StepsSettled, Told, Turned, is_told, left_told, whole_medium}
use Rattle.split_runs.specs.Cores.{CoreMovesIn, HalvesMove, RunsOfHalvesMove}
use Rattle.split_runs.proofs.AcceptLemmas.{begins_same, sent_behind, sent_cancel}
use Rattle.split_runs.proofs.AloneLemmas.{alone_keeps, alone_moves}
use Rattle.split_runs.proofs.CoreLemmas.{advanced_moves, moves_still, moves_then}
use Rattle.split_runs.proofs.PartLemmas.{both_ways, hand_joined, joined_moves, parted_keeps, parted_moves}

-- a medium that works has not failed
pub works_well : (medium : MediumState) → medium.awake && not medium.failed ≡ true → medium.failed ≡ false
works_well medium works = by medium.failed (and_parts medium.awake (not medium.failed) works).1
  where
    by : (b : Bool) → not b ≡ true → b ≡ false
    by true never = absurd (cc)
    by false never = refl

module _ {D : Type 0} (state : D → DiskState) (is_disk : (disk : D) → (state disk).honest → IsDisk (state disk)) where
  -- both halves are held, the drive becomes another, and they part again
  pub held_moves : (old new : HalvesState D) (joined left : BayState D) (made : List Change) → KeepsHalves state old
      → HoldsHalves state old.front old.back joined left new.front new.back
      → CoreMovesIn state (medium_in joined.bay) true made (medium_in left.bay) true → new.waiting ≡ []
      → HalvesMove state old made new
  held_moves old new joined left made keeps holds went waiting =
      subst (λ (l : List Change). HalvesMove state old l new) (append-nil made)
      (moves_then state is_disk (whole_medium old) (medium_in left.bay) (whole_medium new) (is_told old) true
      (is_told new) made []
      (moves_then state is_disk (whole_medium old) (medium_in joined.bay) (medium_in left.bay) (is_told old) true true
      [] made (joined_moves state is_disk old joined old.front.sending keeps holds.joins) went)
      (parted_moves state is_disk left old.front.sending new holds.parts waiting))

  pub held_keeps : (old new : HalvesState D) (joined left : BayState D)
      → HoldsHalves state old.front old.back joined left new.front new.back → PartsAgain state new
      → KeepsHalves state new
  held_keeps old new joined left holds parts =
      parted_keeps state is_disk left old.front.sending new holds.parts parts.waiting parts.front parts.back

  -- a turn stores what it found, whatever more waits behind it
  stored_moves : (a b : Option (DisksState D)) (found more : List Change) (turn : Turn)
      → StoresFoundIn state a found turn b
      → CoreMovesIn state (option_map (λ (m : DisksState D). with_changes m.buffer (found ++ more)) a) false []
      (option_map (λ (m : DisksState D). with_changes m.buffer more) b) false
  stored_moves None b found more turn stores = absurd stores
  stored_moves (Some a) None found more turn stores = absurd stores
  stored_moves (Some a) (Some b) found more turn stores =
      subst
      (λ (l : List Change).
      MovesOn state (disks_in a.buffer.held) (disks_in b.buffer.held)
      (as_told false (medium_core state (record a.buffer { pending = l })))
      (as_told false (medium_core state (with_changes b.buffer more))) [])
      (append_assoc a.buffer.pending found more) (stores.behind more)

  -- where the disk's half works, hosts were told of no fault
  works_untold : (medium : Option (DisksState D)) (span : Span) → FollowsIn state medium span
      → works_in state medium ≡ true → (medium_begun span).failed ≡ false
  works_untold None span follows works =
      let never : false ≡ true = works in
      absurd (cc)
  works_untold (Some m) span follows works =
      by (medium_begun span).failed
      (λ failed. ap (λ (s : MediumState). s.failed) (follows.looked.failed failed) ∙ failed)
    where
      fine : (state_of state m.buffer).failed ≡ false
      fine = works_well (state_of state m.buffer) works

      by : (b : Bool) → (b ≡ true → (state_of state m.buffer).failed ≡ true) → b ≡ false
      by false seen = refl
      by true seen = both_ways (state_of state m.buffer).failed (seen refl) fine

  -- the same halves
  same_halves : (old new : HalvesState D) → new.front ≡ old.front → new.back ≡ old.back → new.waiting ≡ old.waiting
      → new ≡ old
  same_halves old new front back waiting = λ i. record { front = front i; back = back i; waiting = waiting i }

  still_step : (old new : HalvesState D) → new ≡ old → HalvesMove state old [] new
  still_step old new same =
      subst (λ (h : HalvesState D). HalvesMove state old [] h) (sym same)
      (moves_still state is_disk (whole_medium old) (is_told old))

  turned_moves : (old new : HalvesState D) (turn : Turn) (b : Bool) → KeepsHalves state old
      → works_in state old.back.medium ≡ b → TurnsBack state b old.back turn new.back → new.front ≡ old.front
      → new.front.sending.sent ≡ new.back.received ++ map Sent new.waiting → HalvesMove state old [] new
  turned_moves old new turn false keeps works turns front ring =
      let received : new.back.received ≡ old.back.received = ap (λ (b : BackState D). b.received) turns.1 in
      let sent : new.front.sending.sent ≡ old.front.sending.sent =
      ap (λ (f : FrontState D). f.sending.sent) front in
      let waiting : new.waiting ≡ old.waiting =
      sent_cancel old.back.received new.waiting old.waiting
      (ap (λ (l : List Item). l ++ map Sent new.waiting) (sym received) ∙ sym ring ∙ sent ∙ keeps.ring) in
      still_step old new (same_halves old new front turns.1 waiting)
  turned_moves old new turn true keeps works turns front ring =
      let known = turns.2 in
      let found = known.found in
      let sent : new.front.sending.sent ≡ old.front.sending.sent =
      ap (λ (f : FrontState D). f.sending.sent) front in
      let split : old.waiting ≡ found ++ new.waiting =
      sent_cancel old.back.received old.waiting (found ++ new.waiting)
      (sym keeps.ring ∙ sym sent ∙ ring ∙ ap (λ (l : List Item). l ++ map Sent new.waiting) known.received
      ∙ sent_behind old.back.received found new.waiting) in
      let begins : (span_of old.front.sending.sent).begin ≡ (span_of old.back.received).begin =
      ap (λ (l : List Item). (span_of l).begin) keeps.ring ∙ begins_same old.back.received old.waiting in
      let untold : is_told old ≡ false =
      ap (λ b. (medium_begun (record { begin = b; since = [] })).failed) begins
      ∙ works_untold old.back.medium (span_of old.back.received) keeps.back.follows works in
      let untold' : is_told new ≡ false =
      ap (λ (f : FrontState D). (medium_begun (span_of f.sending.sent)).failed) front ∙ untold in
      let moves = stored_moves old.back.medium new.back.medium found new.waiting turn known.stores in
      subst (λ (t : Bool). CoreMovesIn state (whole_medium old) t [] (whole_medium new) (is_told new)) (sym untold)
      (subst (λ (t : Bool). CoreMovesIn state (whole_medium old) false [] (whole_medium new) t) (sym untold')
      (subst
      (λ (w : List Change).
      CoreMovesIn state (option_map (λ (m : DisksState D). with_changes m.buffer w) old.back.medium) false []
      (whole_medium new) false)
      (sym split) moves))

  turned_keeps : (old new : HalvesState D) → KeepsHalves state old → new.front ≡ old.front
      → new.front.sending.sent ≡ new.back.received ++ map Sent new.waiting → KeepsDiskHalf state new.back
      → KeepsHalves state new
  turned_keeps old new keeps front ring back =
      record {
        front = subst (KeepsHostsHalf state) (sym front) keeps.front;
        back = back;
        ring = ring;
        spent =
            subst
            (λ (f : FrontState D).
            (medium_begun (span_of f.sending.sent)).failed ≡ true → (span_of f.sending.sent).begin.left ≡ 0)
            (sym front) keeps.spent;
      }

  -- a fault is told
  told_moves : (old new : HalvesState D) (b : Bool) → KeepsHalves state old
      → ReportsBoth state b old.front old.back new.front new.back → new.waiting ≡ left_told state b old.waiting
      → HalvesMove state old [] new
  told_moves old new false keeps reports waiting =
      still_step old new (same_halves old new reports.0 reports.1 waiting)
  told_moves old new true keeps reports waiting =
      held_moves old new reports.joined reports.joined [] keeps reports.holds
      (moves_still state is_disk (medium_in reports.joined.bay) true) waiting

  told_keeps : (old new : HalvesState D) (b : Bool) → KeepsHalves state old
      → ReportsBoth state b old.front old.back new.front new.back → new.waiting ≡ left_told state b old.waiting
      → KeepsHostsHalf state new.front → KeepsDiskHalf state new.back → KeepsHalves state new
  told_keeps old new false keeps reports waiting front back =
      subst (KeepsHalves state) (sym (same_halves old new reports.0 reports.1 waiting)) keeps
  told_keeps old new true keeps reports waiting front back =
      held_keeps old new reports.joined reports.joined reports.holds
      (record { waiting = waiting; front = front; back = back })

  -- both halves answer
  pub both_moves : (old new : HalvesState D) (request : Request) (reply : Reply) (left : List ℕ) (made : List Change)
      → KeepsHalves state old → StepsBoth state old request reply left made new → HalvesMove state old made new
  both_moves old new request reply left made keeps step =
      let e = step.executes in
      let taken = e.answers.step.step.taken in
      held_moves old new e.joined e.answered made keeps e.holds
      (subst
      (λ (l : List Change). CoreMovesIn state (medium_in e.joined.bay) true l (medium_in e.answered.bay) true)
      (sym step.made_is)
      (advanced_moves state is_disk (medium_in e.joined.bay) (medium_in e.answered.bay) taken.made.changes _
      (hand_joined state is_disk old e.joined old.front.sending e.holds.joins) taken.advances))
      step.parts.waiting

  -- both halves take a turn
  settled_moves : (old new : HalvesState D) (turn : Turn) (made : List Change) → KeepsHalves state old
      → StepsSettled state old turn made new → HalvesMove state old [] new
  settled_moves old new turn made keeps step =
      let e = step.settles in
      held_moves old new e.joined e.settled [] keeps e.holds
      (advanced_moves state is_disk (medium_in e.joined.bay) (medium_in e.settled.bay) [] _
      (hand_joined state is_disk old e.joined old.front.sending e.holds.joins) e.turned.advances)
      step.parts.waiting

  -- each call
  pub step_moves : (old new : HalvesState D) (call : HalfCall) (made : List Change) → KeepsHalves state old
      → HalfStep state old call made new → HalvesMove state old made new × KeepsHalves state new
  step_moves old new (Alone request result left) made keeps step = (
    alone_moves state is_disk old new request result left made keeps step,
    alone_keeps state is_disk old new request result left made keeps step,
  )
  step_moves old new (Turned turn) made keeps step = (
    subst (λ (l : List Change). HalvesMove state old l new) (sym step.made_is)
        (turned_moves old new turn (works_in state old.back.medium) keeps refl step.turns step.front step.ring),
    turned_keeps old new keeps step.front step.ring step.keeps,
  )
  step_moves old new (Both request reply left) made keeps step = (
    both_moves old new request reply left made keeps step,
    held_keeps old new step.executes.joined step.executes.answered step.executes.holds step.parts,
  )
  step_moves old new (Settled turn) made keeps step = (
    subst (λ (l : List Change). HalvesMove state old l new) (sym step.made_is)
        (settled_moves old new turn made keeps step),
    held_keeps old new step.settles.joined step.settles.settled step.settles.holds step.parts,
  )
  step_moves old new Roomed made keeps step = (
    subst (λ (l : List Change). HalvesMove state old l new) (sym step.made_is)
        (held_moves old new step.joined step.joined [] keeps step.holds
        (moves_still state is_disk (medium_in step.joined.bay) true) step.parts.waiting),
    held_keeps old new step.joined step.joined step.holds step.parts,
  )
  step_moves old new Told made keeps step = (
    subst (λ (l : List Change). HalvesMove state old l new) (sym step.made_is)
        (told_moves old new (is_unreported state old.front old.back) keeps step.reports step.waiting),
    told_keeps old new (is_unreported state old.front old.back) keeps step.reports step.waiting step.front step.back,
  )

  -- any list of calls
  pub run_moves : RunsOfHalvesMove state
  run_moves old new [] made keeps run = (
    subst (λ (l : List Change). HalvesMove state old l new) (sym run.1) (still_step old new run.0),
    subst (KeepsHalves state) (sym run.0) keeps,
  )
  run_moves old new (call ∷ calls) made keeps run =
      let between = run.0 in
      let one = step_moves old between call run.1 keeps run.3 in
      let two = run_moves between new calls run.2 one.1 run.4 in (
        subst (λ (l : List Change). HalvesMove state old l new) (sym run.5)
            (moves_then state is_disk (whole_medium old) (whole_medium between) (whole_medium new) (is_told old)
            (is_told between) (is_told new) run.1 run.2 one.0 two.0),
        two.1,
      )
