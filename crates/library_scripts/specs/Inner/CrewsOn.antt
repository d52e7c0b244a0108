-- Runs of a crew compose.
use Rattle.std.proofs.Common.{◌≡◌, Bool, List, [], ◌∷◌, ◌++◌, flat_map, refl, sym, subst, ◌∙◌, arith}
use Rattle.std.proofs.lemmas.Grind.{flat_map-append}
use Rattle.std.proofs.lemmas.List.Sums.{sum_by-append}
use Rattle.tape_disk.specs.Disk.{DiskState}
use Rattle.library.specs.Seats.{SeatState}
use Rattle.scsi_sense.specs.declared.replies.Reply.{Reply}
use Rattle.vtl_script.specs.declared.items.Item.{Item}
use Rattle.vtl_script.specs.declared.items.Item.TheVariants.{Phase}
use Rattle.drive_commands.specs.Events.{Event, OfLibrary}
use Rattle.bay_moves.specs.Runs.{events_of}
use Rattle.library_scripts.specs.Crews.{AnswersAllAmong, AnswersCrew, CrewState, moves_of}

module _ {D : Type 0} (state : D → DiskState) where
  -- a run from the end of another extends it
  pub among_on : (drives : List Bool) (old mid new : List SeatState) (first rest : List (Event OfLibrary))
      (replies others : List Reply)
      → AnswersAllAmong state drives old first replies mid → AnswersAllAmong state drives mid rest others new
      → AnswersAllAmong state drives old (first ++ rest) (replies ++ others) new
  among_on drives old mid new [] rest [] others one two =
      subst (λ (seats : List SeatState). AnswersAllAmong state drives seats rest others new) one two
  among_on drives old mid new (event ∷ first) rest (reply ∷ replies) others one two =
      (one.0, one.1, among_on drives one.0 mid new first rest replies others one.2 two)
  among_on drives old mid new [] rest (reply ∷ replies) others one two = absurd one
  among_on drives old mid new (event ∷ first) rest [] others one two = absurd one

  -- the same drives are configured
  pub crew_drives : (old new : CrewState) (items : List Item) (replies : List Reply)
      → AnswersCrew state old items replies new → new.drives ≡ old.drives
  crew_drives old new items replies answered = answered.drives

  -- no items, no replies, no change
  pub crew_none : (crew : CrewState) → AnswersCrew state crew [] [] crew
  crew_none crew = record { drives = refl; answered = refl; moved = omega arith }

  -- the same for a phase without commands
  pub crew_empty : (crew : CrewState) → AnswersCrew state crew (Phase [] ∷ []) [] crew
  crew_empty crew = record { drives = refl; answered = refl; moved = omega arith }

  -- items are answered one after another
  pub crew_on : (old mid new : CrewState) (first rest : List Item) (replies others : List Reply)
      → AnswersCrew state old first replies mid → AnswersCrew state mid rest others new
      → AnswersCrew state old (first ++ rest) (replies ++ others) new
  crew_on old mid new first rest replies others one two = record {
    drives = two.drives ∙ one.drives;
    answered =
        subst
        (λ (events : List (Event OfLibrary)). AnswersAllAmong state old.drives old.seats events (replies ++ others)
        new.seats)
        (sym (flat_map-append events_of first rest))
        (among_on old.drives old.seats mid.seats new.seats (flat_map events_of first) (flat_map events_of rest) replies
        others one.answered
        (subst
        (λ (drives : List Bool). AnswersAllAmong state drives mid.seats (flat_map events_of rest) others new.seats)
        one.drives two.answered));
    moved = omega (arith, one.moved, two.moved, sum_by-append moves_of first rest);
  }
