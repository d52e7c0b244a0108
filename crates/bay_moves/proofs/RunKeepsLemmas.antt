-- What survives while a library is asked one thing after another.
use Rattle.std.proofs.Common.{◌≡◌, ◌≢◌, ◌⊎◌, ◌++◌, ◌∙◌, inl, inr, ℕ, Bool, true, List, [], ◌∷◌, Option, Some, Result, Ok, Err, flat_map, map, refl, sym, ap, subst}
use Rattle.tape_disk.specs.Disk.{DiskState}
use Rattle.tape_disk.specs.TwoDisks.{AreHonest, TwoDisks}
use Rattle.scsi_sense.specs.declared.replies.Reply.{Reply}
use Rattle.volume_core.specs.declared.changes.Change.{Change}
use Rattle.volume_core.specs.Volume.{Part}
use Rattle.tape_buffer.specs.Moves.{ShowsOn, medium_core}
use Rattle.tape_buffer.specs.declared.holding.Holding.{Holding}
use Rattle.tape_buffer.specs.declared.holding.Holding.TheVariants.{Open, Closed, Away}
use Rattle.tape_buffer.specs.Moves.{IsHere}
use Rattle.tape_buffer.specs.State.{BufferState, awake_is_read, disks_in, state_held, state_of}
use Rattle.cartridge.specs.Contents.{volume_made}
use Rattle.cartridge.specs.State.{ClosedCartridge, OpenCartridge}
use Rattle.aptpl_store.specs.Kept.{store_kept}
use Rattle.drive_commands.specs.declared.bays.Bay.{Bay}
use Rattle.drive_commands.specs.declared.bays.Bay.TheVariants.{Loaded}
use Rattle.drive_commands.specs.State.{IsBayPositioned, machine_of, medium_in}
use Rattle.drive_commands.specs.Events.{Carry, Event, Execute, FlushTurn, InDrive, Insert, Load, OfLibrary, PowerOn, Unload, WriteOut}
use Rattle.drive_commands.specs.Work.{Request}
use Rattle.drive_commands.specs.Synchronize.{IsSynchronizing}
use Rattle.vtl_script.specs.declared.faults.ScriptFault.{ScriptFault}
use Rattle.vtl_script.specs.declared.faults.ScriptFault.TheVariants as faults
use Rattle.vtl_script.specs.declared.items.Item.{Item}
use Rattle.vtl_script.specs.Runs.{RunsScript, ScriptEnds}
use Rattle.vtl_script.specs.declared.lines.ParsedLine.{ParsedLine}
use Rattle.bay_moves.specs.Bays.{KeepsCartridge, KeepsCartridgeIn}
use Rattle.bay_moves.specs.Cartridges.{IsKnown}
use Rattle.bay_moves.specs.Commands.{Commands}
use Rattle.bay_moves.specs.Elements.{BayState, HeldState}
use Rattle.bay_moves.specs.Inner.RunsOn.{held_on}
use Rattle.bay_moves.specs.Journeys.{DriveDoes, GoesWith, GoesWithAll, KeepsWhatIsSafe, StopsKeepWhatIsMoved}
use Rattle.bay_moves.specs.RunKeeps.{AnswersKeeping, KeptSince, RunKeeps}
use Rattle.bay_moves.specs.Runs.{AnswersEvent, AnswersEvents, LibraryAnswers, events_of}
use Rattle.bay_moves.proofs.PlaceLemmas.{in_bay, same_or_not}
use Rattle.bay_moves.proofs.ServedLemmas.{found_same}

module _ {D : Type 0} (state : D → DiskState) where
  -- a command is an event of its drive
  does : (old mid : HeldState D) (number : ℕ) (request : Request) (reply : Reply)
      → (one : Commands state number request old reply mid)
      → DriveDoes state number (Execute request) (Some reply) one.step.taken.made old mid
  does old mid number request reply one =
      record {
        number_is = one.number_is;
        bay = one.bay;
        is = one.is;
        left = one.left;
        does = (one.step, refl);
        now = one.now;
      }

  -- a cartridge through an event that is answered
  goes_one : (old mid : HeldState D) (place : ℕ) (event : Event OfLibrary) (reply : Reply)
      → AnswersEvent state old event reply mid
      → (after : ℕ) × (changes : List Change) × GoesWith state old place event (Some reply) changes mid after
  goes_one old mid place (InDrive number (Execute request)) reply one = by (same_or_not number place)
    where
      by : (number ≡ place) ⊎ (number ≢ place)
          → (after : ℕ) × (changes : List Change)
          × GoesWith state old place (InDrive number (Execute request)) (Some reply) changes mid after
      by (inl here) = (
        place,
        one.step.taken.made.changes,
        (one.step.taken.made, does old mid number request reply one, refl, inl (here, refl)),
      )
      by (inr apart) =
          (place, [], (one.step.taken.made, does old mid number request reply one, refl, inr (apart, refl)))
  goes_one old mid place (Carry from to) reply (moves, inl (good, moved)) = by (same_or_not place from)
    where
      by : (place ≡ from) ⊎ (place ≢ from)
          → (after : ℕ) × (changes : List Change)
          × GoesWith state old place (Carry from to) (Some reply) changes mid after
      by (inl here) = (to, [], (moves, inl (good, moved), inl (good, here, refl), refl))
      by (inr apart) = (place, [], (moves, inl (good, moved), inr (inr apart, refl), refl))
  goes_one old mid place (Carry from to) reply (moves, inr (not_good, stays)) =
      (place, [], (moves, inr (not_good, stays), inr (inl not_good, refl), refl))
  goes_one old mid place (InDrive number FlushTurn) reply one = absurd one
  goes_one old mid place (InDrive number (Load medium)) reply one = absurd one
  goes_one old mid place (InDrive number (Insert medium)) reply one = absurd one
  goes_one old mid place (InDrive number Unload) reply one = absurd one
  goes_one old mid place (InDrive number (PowerOn medium keeper)) reply one = absurd one
  goes_one old mid place WriteOut reply one = absurd one

  goes_all : (old new : HeldState D) (place : ℕ) (events : List (Event OfLibrary)) (replies : List Reply)
      → AnswersEvents state old events replies new
      → (after : ℕ) × (changes : List Change)
      × GoesWithAll state old place events (map Some replies) changes new after
  goes_all old new place [] [] is = (place, [], (refl, is, refl))
  goes_all old new place [] (reply ∷ replies) is = absurd is
  goes_all old new place (event ∷ events) [] is = absurd is
  goes_all old new place (event ∷ events) (reply ∷ replies) (mid, one, others) =
      let first = goes_one old mid place event reply one in
      let rest = goes_all mid new first.0 events replies others in
      (rest.0, first.1 ++ rest.1, (mid, first.0, first.1, rest.1, first.2, rest.2, refl))

  -- the side of an awake cartridge gave a volume
  stored_in : (held : Holding (OpenCartridge D) (ClosedCartridge D)) (pending : List Change)
      → (state_held state held pending).awake ≡ true → IsHere held
      → (volume : List Part) × ((state_held state held pending).stored ≡ Some volume)
  stored_in (Open cartridge) pending awake here = (volume_made cartridge.contents, refl)
  stored_in (Closed cartridge) pending awake here = absurd (cc)
  stored_in (Away away) pending awake here = absurd here

  -- the invariant of an awake cartridge on honest disks makes it known
  known_of : (medium : BufferState D) (disks : TwoDisks D) → KeepsCartridge state medium
      → disks_in medium.held ≡ Some disks → AreHonest state disks → (state_of state medium).awake ≡ true
      → IsKnown state medium
  known_of medium disks kept disks_are honest awake =
      let stored = stored_in medium.held medium.pending awake kept.hand in
      record {
        disks = disks;
        disks_are = disks_are;
        honest = honest;
        core = kept.core;
        shows =
            subst (λ (d : Option (TwoDisks D)). ShowsOn state d (medium_core state medium)) disks_are
            (kept.shows (inl (awake_is_read state medium awake)) stored.0 stored.1) honest;
      }

  module _ (moved : StopsKeepWhatIsMoved state) where
    since : (old mid new : HeldState D) (event : Event OfLibrary) (reply : Reply) (events : List (Event OfLibrary))
        (replies : List Reply) → AnswersEvent state old event reply mid → AnswersEvents state mid events replies new
        → KeptSince state old event reply mid events replies new
    since old mid new (InDrive number (Execute request)) reply events replies one others =
        λ bay medium disks is loaded disks_are honest synchronizing told.
        let same : one.bay ≡ bay = found_same one.bay bay (sym one.is ∙ is) in
        let at : one.bay.bay ≡ Loaded medium = ap (λ (b : BayState D). b.bay) same ∙ loaded in
        let there : medium_in one.bay.bay ≡ Some medium = ap medium_in at in
        let kept = subst (λ (m : Option (BufferState D)). KeepsCartridgeIn state m) there one.keeps in
        let on =
        subst (λ (b : Bay (BufferState D)). IsBayPositioned (state_of state) b one.bay.position) at one.positioned
        in
        let goes = goes_all mid new number events replies others in (
          goes.0,
          goes.1,
          goes.2,
          moved old mid new number goes.0 medium request reply events (map Some replies) goes.1
              (in_bay number one.bay old one.number_is one.is ∙ there)
              (known_of medium disks kept disks_are honest on.awake) one
              (subst (λ (b : BayState D). IsSynchronizing (machine_of (state_of state) store_kept b) request.cdb)
              (sym same) synchronizing)
              told goes.2,
        )
    since old mid new (Carry from to) reply events replies one others = tt
    since old mid new (InDrive number FlushTurn) reply events replies one others = tt
    since old mid new (InDrive number (Load medium)) reply events replies one others = tt
    since old mid new (InDrive number (Insert medium)) reply events replies one others = tt
    since old mid new (InDrive number Unload) reply events replies one others = tt
    since old mid new (InDrive number (PowerOn medium keeper)) reply events replies one others = tt
    since old mid new WriteOut reply events replies one others = tt

    answers_keeping : (old new : HeldState D) (events : List (Event OfLibrary)) (replies : List Reply)
        → AnswersEvents state old events replies new → AnswersKeeping state old events replies new
    answers_keeping old new [] [] is = is
    answers_keeping old new [] (reply ∷ replies) is = absurd is
    answers_keeping old new (event ∷ events) [] is = absurd is
    answers_keeping old new (event ∷ events) (reply ∷ replies) (mid, one, others) = (
      mid,
      one,
      since old mid new event reply events replies one others,
      answers_keeping mid new events replies others,
    )

    module _ (safe : KeepsWhatIsSafe state) where
      -- items were answered, and then more, or none
      on : (old mid new : HeldState D) (items more : List Item) (replies others : List Reply)
          → LibraryAnswers state old items replies mid → LibraryAnswers state mid more others new
          → RunKeeps state old new items replies
      on old mid new items more replies others one two =
          let all = held_on state old mid new items more replies others one two in
          let events = flat_map events_of (items ++ more) in
          record {
            more = more;
            others = others;
            acknowledged = answers_keeping old new events (replies ++ others) all;
            safe = λ place medium at known can.
                let goes = goes_all old new place events (replies ++ others) all in (
                  goes.0,
                  goes.1,
                  goes.2,
                  safe old new place goes.0 medium events (map Some (replies ++ others)) goes.1 at known can goes.2,
                );
          }

      by_end : (size : ℕ) (parsed_list : List ParsedLine) (items : List Item) (text : List ℕ)
          (old mid new : HeldState D) (before now : Option (List ℕ)) (replies : List Reply)
          (result : Result (Unit {0}) ScriptFault) → LibraryAnswers state old items replies mid
          → ScriptEnds (LibraryAnswers state) size parsed_list items text mid before new now result
          → RunKeeps state old new items replies
      by_end size parsed_list items text old mid new before now replies (Ok done) answered ended =
          on old mid new items [] replies [] answered ended.3.0
      by_end size parsed_list items text old mid new before now replies (Err (faults.BadLine number)) answered ended =
          on old mid new items [] replies [] answered ended.2.0
      by_end size parsed_list items text old mid new before now replies (Err faults.ReadFault) answered ended =
          on old mid new items [] replies [] answered ended.2.0
      by_end size parsed_list items text old mid new before now replies (Err faults.WriteFault) answered ended =
          on old mid new items (ended.2.item ∷ []) replies ended.2.replies answered ended.2.answered
      by_end size parsed_list items text old mid new before now replies (Err faults.NoMemory) answered
          (behind, is, inl stops) = on old mid new items [] replies [] answered stops.0
      by_end size parsed_list items text old mid new before now replies (Err faults.NoMemory) answered
          (behind, is, inr part) =
          on old mid new items (part.some.part ∷ []) replies part.some.replies answered part.some.answered

      pub run_keeps : (is_configured : ℕ → Bool) (old new : HeldState D) (left before now : Option (List ℕ))
          (result : Result (Unit {0}) ScriptFault)
          (runs : RunsScript is_configured (LibraryAnswers state) old left before new now result)
          → RunKeeps state old new runs.items runs.replies
      run_keeps is_configured old new left before now result runs =
          by_end _ _ runs.items _ old runs.mid new before now runs.replies result runs.answered runs.ended
