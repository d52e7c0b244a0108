-- The core of a cartridge that is followed through calls of halves and moves.
use Rattle.std.proofs.Common.{◌≡◌, List, [], ◌∷◌, true, Option, Some, Ok, sym, subst}
use Rattle.std.proofs.lemmas.List.{append-nil}
use Rattle.tape_disk.specs.Disk.{DiskState, IsDisk}
use Rattle.volume_core.specs.declared.changes.Change.{Change}
use Rattle.accepted_changes.specs.Device.{two_disks}
use Rattle.accepted_changes.specs.Laws.{CrashesKeepAcknowledged, EventsKeepBase}
use Rattle.drive_commands.specs.declared.bays.Bay.{Bay}
use Rattle.drive_commands.specs.declared.bays.Bay.TheVariants.{Empty, Unloaded, Loaded}
use Rattle.drive_commands.specs.Media.{GoesOutOf}
use Rattle.drive_commands.specs.State.{medium_in}
use Rattle.tape_buffer.specs.Moves.{IsHere, buffer_below, moves_here}
use Rattle.tape_buffer.specs.Rules.{medium_rules}
use Rattle.tape_buffer.specs.State.{BufferState, state_of}
use Rattle.bay_moves.specs.Elements.{BayState}
use Rattle.split_bay.specs.Rings.{SendingState}
use Rattle.split_runs.specs.Calls.{HalvesState, KeepsHalves, is_told, whole_medium}
use Rattle.split_runs.specs.Cores.{CoreMovesIn, HalvesMove}
use Rattle.split_runs.specs.Places.{Called, FollowedMoves, FollowedStopsKeep, InHalves, KeepsPlace, Outside, PartsInto, Place, PlaceCall, PlaceStep, PutIn, StepsIn, StepsOut, StepsPut, StepsWorked, TakenIn, TakenOut, Worked, medium_at, told_at}
use Rattle.split_runs.proofs.CoreLemmas.{IsHereIn, advanced_moves, moves_still, moves_then}
use Rattle.split_runs.proofs.PartLemmas.{hand_joined, joined_moves, parted_keeps, parted_moves}
use Rattle.split_runs.proofs.RunLemmas.{held_keeps, step_moves}
use Rattle.split_runs.proofs.StopLemmas.{ShownAs, shown_whole, stop_keeps_from}

module _ {D : Type 0} (state : D → DiskState) (is_disk : (disk : D) → (state disk).honest → IsDisk (state disk)) where
  -- a drive parts
  into_moves : (bay : BayState D) (ends : SendingState) (halves : HalvesState D) → PartsInto state bay ends halves
      → CoreMovesIn state (medium_in bay.bay) true [] (whole_medium halves) (is_told halves)
  into_moves bay ends halves parts = parted_moves state is_disk bay ends halves parts.parts parts.again.waiting

  into_keeps : (bay : BayState D) (ends : SendingState) (halves : HalvesState D) → PartsInto state bay ends halves
      → KeepsHalves state halves
  into_keeps bay ends halves parts =
      parted_keeps state is_disk bay ends halves parts.parts parts.again.waiting parts.again.front
      parts.again.back

  -- what is in a drive goes out
  out_moves : (bay : Bay (BufferState D)) (old left : BayState D) (out : BufferState D) → IsHereIn (medium_in bay)
      → GoesOutOf (state_of state) (buffer_below state) bay old (Ok out) left
      → CoreMovesIn state (medium_in bay) true [] (Some out) true × IsHere out.held
  out_moves Empty old left out here goes = absurd goes
  out_moves (Unloaded given) old left out here goes = (
    subst (λ (b : BufferState D). CoreMovesIn state (Some given) true [] (Some b) true) (sym goes.0)
        (moves_still state is_disk (Some given) true),
    subst (λ (b : BufferState D). IsHere b.held) (sym goes.0) here,
  )
  out_moves (Loaded given) old left out here goes = moves_here state given out [] here goes.0.1.moved

  worked_moves : (old new : HalvesState D) (made : List Change) → KeepsHalves state old
      → StepsWorked state old made new → HalvesMove state old made new
  worked_moves old new made keeps step =
      subst (λ (l : List Change). HalvesMove state old l new) (append-nil made)
      (moves_then state is_disk (whole_medium old) (medium_in step.used.bay) (whole_medium new) (is_told old) true
      (is_told new) made []
      (moves_then state is_disk (whole_medium old) (medium_in step.joined.bay) (medium_in step.used.bay) (is_told old)
      true true [] made
      (joined_moves state is_disk old step.joined step.ends keeps step.joins)
      (advanced_moves state is_disk (medium_in step.joined.bay) (medium_in step.used.bay) made step.fault
      (hand_joined state is_disk old step.joined step.ends step.joins) step.advances))
      (into_moves step.used step.ends new step.parted))

  goes_moves : (old : HalvesState D) (out : BufferState D) → KeepsHalves state old → StepsOut state old out
      → CoreMovesIn state (whole_medium old) (is_told old) [] (Some out) true × IsHere out.held
  goes_moves old out keeps step =
      let goes =
      out_moves step.joined.bay step.joined step.left out
      (hand_joined state is_disk old step.joined step.ends step.joins) step.goes in (
        moves_then state is_disk (whole_medium old) (medium_in step.joined.bay) (Some out) (is_told old) true true []
            [] (joined_moves state is_disk old step.joined step.ends keeps step.joins) goes.0,
        goes.1,
      )

  in_moves : (given : BufferState D) (new : HalvesState D) → IsHere given.held → StepsIn state given new
      → CoreMovesIn state (Some given) true [] (whole_medium new) (is_told new)
  in_moves given new here step =
      moves_then state is_disk (Some given) (medium_in step.bay.bay) (whole_medium new) true true (is_told new) [] []
      (subst (λ (b : BayState D). CoreMovesIn state (Some given) true [] (medium_in b.bay) true) (sym step.takes.2)
      (moves_here state given step.takes.0 [] here step.takes.1.advances.moved).0)
      (into_moves step.bay step.ends new step.parted)

  put_moves : (given : BufferState D) (new : HalvesState D) → StepsPut state given new
      → CoreMovesIn state (Some given) true [] (whole_medium new) (is_told new)
  put_moves given new step =
      moves_then state is_disk (Some given) (medium_in step.bay.bay) (whole_medium new) true true (is_told new) [] []
      (subst (λ (b : BayState D). CoreMovesIn state (Some given) true [] (medium_in b.bay) true) (sym step.inserted)
      (moves_still state is_disk (Some given) true))
      (into_moves step.bay step.ends new step.parted)

  -- with nothing made
  abbrev MovesTo : Place D → List Change → Place D → Type 0
  MovesTo old made new =
      CoreMovesIn state (medium_at old) (told_at old) made (medium_at new) (told_at new) × KeepsPlace state new

  none_made : (old new : Place D) (made : List Change) → made ≡ [] → MovesTo old [] new → MovesTo old made new
  none_made old new made none moves = subst (λ (l : List Change). MovesTo old l new) (sym none) moves

  place_moves : (old new : Place D) (call : PlaceCall) (made : List Change) → KeepsPlace state old
      → PlaceStep state old call made new → MovesTo old made new
  place_moves (InHalves old) (InHalves new) (Called call) made keeps step =
      step_moves state is_disk old new call made keeps step
  place_moves (InHalves old) (InHalves new) Worked made keeps step =
      (worked_moves old new made keeps step, into_keeps step.used step.ends new step.parted)
  place_moves (InHalves old) (Outside new) TakenOut made keeps step =
      none_made (InHalves old) (Outside new) made step.1 (goes_moves old new keeps step.0)
  place_moves (Outside old) (InHalves new) TakenIn made keeps step =
      none_made (Outside old) (InHalves new) made step.1
      (in_moves old new keeps step.0, into_keeps step.0.bay step.0.ends new step.0.parted)
  place_moves (Outside old) (Outside new) TakenIn made keeps step =
      none_made (Outside old) (Outside new) made step.1
      (moves_here state old new [] keeps step.0.takes.1.advances.moved)
  place_moves (Outside old) (InHalves new) PutIn made keeps step =
      none_made (Outside old) (InHalves new) made step.1
      (put_moves old new step.0, into_keeps step.0.bay step.0.ends new step.0.parted)
  place_moves (InHalves old) (InHalves new) TakenOut made keeps step = absurd step
  place_moves (InHalves old) (InHalves new) TakenIn made keeps step = absurd step
  place_moves (InHalves old) (InHalves new) PutIn made keeps step = absurd step
  place_moves (InHalves old) (Outside new) (Called call) made keeps step = absurd step
  place_moves (InHalves old) (Outside new) Worked made keeps step = absurd step
  place_moves (InHalves old) (Outside new) TakenIn made keeps step = absurd step
  place_moves (InHalves old) (Outside new) PutIn made keeps step = absurd step
  place_moves (Outside old) (InHalves new) (Called call) made keeps step = absurd step
  place_moves (Outside old) (InHalves new) Worked made keeps step = absurd step
  place_moves (Outside old) (InHalves new) TakenOut made keeps step = absurd step
  place_moves (Outside old) (Outside new) (Called call) made keeps step = absurd step
  place_moves (Outside old) (Outside new) Worked made keeps step = absurd step
  place_moves (Outside old) (Outside new) TakenOut made keeps step = absurd step
  place_moves (Outside old) (Outside new) PutIn made keeps step = absurd step

  pub followed_moves : FollowedMoves state
  followed_moves old new [] made keeps run =
      none_made old new made run.1
      (subst (λ (p : Place D). MovesTo old [] p) (sym run.0)
      (moves_still state is_disk (medium_at old) (told_at old), keeps))
  followed_moves old new (call ∷ calls) made keeps run =
      let one = place_moves old run.0 call run.1 keeps run.3 in
      let two = followed_moves run.0 new calls run.2 one.1 run.4 in (
        subst
            (λ (l : List Change). CoreMovesIn state (medium_at old) (told_at old) l (medium_at new) (told_at new))
            (sym run.5)
            (moves_then state is_disk (medium_at old) (medium_at run.0) (medium_at new) (told_at old) (told_at run.0)
            (told_at new) run.1 run.2 one.0 two.0),
        two.1,
      )

  pub followed_stop_keep : CrashesKeepAcknowledged medium_rules (two_disks state)
      → EventsKeepBase medium_rules (two_disks state) → FollowedStopsKeep state
  followed_stop_keep crash base first last mid acked before after made made' made'' medium request reply left keeps more
      there known run step synchronizes acknowledges rest =
      let e = step.executes in
      let one = followed_moves first (InHalves mid) before made keeps run in
      let keeps' = held_keeps state is_disk mid acked e.joined e.answered e.holds step.parts in
      let two = followed_moves (InHalves acked) last after made'' keeps' rest in
      let whole : ShownAs state is_disk (medium_at first) (told_at first) =
      subst (λ (m : Option (BufferState D)). ShownAs state is_disk m (told_at first)) (sym there)
      (shown_whole state is_disk medium more (told_at first) known) in
      stop_keeps_from state is_disk crash base (medium_at first) (told_at first) mid acked (medium_at last)
      (told_at last) made made' made'' request reply left whole one.0 one.1 step synchronizes acknowledges two.0
