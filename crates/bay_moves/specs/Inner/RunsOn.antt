-- Runs of a library compose.
use Rattle.std.proofs.Common.{List, [], ◌∷◌, ◌++◌, flat_map, refl, sym, subst}
use Rattle.std.proofs.lemmas.Grind.{flat_map-append}
use Rattle.tape_disk.specs.Disk.{DiskState}
use Rattle.scsi_sense.specs.declared.replies.Reply.{Reply}
use Rattle.vtl_script.specs.declared.items.Item.{Item}
use Rattle.bay_moves.specs.Elements.{HeldState}
use Rattle.drive_commands.specs.Events.{Event, OfLibrary}
use Rattle.bay_moves.specs.Runs.{AnswersEvents, LibraryAnswers, events_of}

module _ {D : Type 0} (state : D → DiskState) where
  -- no events, no replies, no change
  pub held_none : (held : HeldState D) → AnswersEvents state held [] [] held
  held_none held = refl

  -- a run from the end of another extends it
  pub events_on : (old mid new : HeldState D) (first rest : List (Event OfLibrary)) (replies others : List Reply)
      → AnswersEvents state old first replies mid → AnswersEvents state mid rest others new
      → AnswersEvents state old (first ++ rest) (replies ++ others) new
  events_on old mid new [] rest [] others one two =
      subst (λ (held : HeldState D). AnswersEvents state held rest others new) one two
  events_on old mid new (event ∷ first) rest (reply ∷ replies) others one two =
      (one.0, one.1, events_on one.0 mid new first rest replies others one.2 two)
  events_on old mid new [] rest (reply ∷ replies) others one two = absurd one
  events_on old mid new (event ∷ first) rest [] others one two = absurd one

  -- the same for items
  pub held_on : (old mid new : HeldState D) (first rest : List Item) (replies others : List Reply)
      → LibraryAnswers state old first replies mid → LibraryAnswers state mid rest others new
      → LibraryAnswers state old (first ++ rest) (replies ++ others) new
  held_on old mid new first rest replies others one two =
      subst (λ (events : List (Event OfLibrary)). AnswersEvents state old events (replies ++ others) new)
      (sym (flat_map-append events_of first rest))
      (events_on old mid new (flat_map events_of first) (flat_map events_of rest) replies others one two)
