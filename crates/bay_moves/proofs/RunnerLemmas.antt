-- The phases and moves that a library runs.
use Rattle.std.proofs.Common.{◌≡◌, ℕ, ◌<◌, Bool, true, false, List, [], ◌∷◌, ◌++◌, flat_map, get_or, length, map, refl, sym, ap, ◌∙◌, subst}
use Rattle.std.proofs.lemmas.List.{append-nil, map-append}
use Rattle.std.proofs.lemmas.List.Folds.{list_all_at}
use Rattle.std.specs.List.{list_all}
use Rattle.tape_disk.specs.Disk.{DiskState}
use Rattle.scsi_sense.specs.declared.replies.Reply.{Reply}
use Rattle.vtl_script.specs.declared.lines.Line.{Line}
use Rattle.vtl_script.specs.declared.items.Item.TheVariants.{Phase}
use Rattle.bay_moves.specs.Commands.{Commands}
use Rattle.bay_moves.specs.Elements.{HeldState}
use Rattle.bay_moves.specs.Inner.RunsOn.{events_on}
use Rattle.drive_commands.specs.Events.{Event, OfLibrary}
use Rattle.bay_moves.specs.Runs.{AnswersEvents, LibraryAnswers, events_of, line_event, line_request}

-- each of some lines passes
pub passes_at : (p : Line → Bool) (lines : List Line) (i : ℕ) (line : Line) → list_all p lines ≡ true
    → i < length lines → line ≡ get_or lines i line → p line ≡ true
passes_at p lines i line all within is = by (p line) refl
  where
    by : (test : Bool) → p line ≡ test → p line ≡ true
    by true holds = holds
    by false fails =
        let none : list_all p lines ≡ false = list_all_at p lines i line within (ap p (sym is) ∙ fails) in absurd (cc)

-- the events of a phase alone
phase_is : (lines : List Line) → flat_map events_of (Phase lines ∷ []) ≡ map line_event lines
phase_is lines = append-nil (map line_event lines)

module _ {D : Type 0} (state : D → DiskState) where
  -- a phase with one more command
  pub phase_on : (old mid new : HeldState D) (lines : List Line) (line : Line) (replies : List Reply) (reply : Reply)
      → LibraryAnswers state old (Phase lines ∷ []) replies mid
      → Commands state line.drive (line_request line) mid reply new
      → LibraryAnswers state old (Phase (lines ++ line ∷ []) ∷ []) (replies ++ reply ∷ []) new
  phase_on old mid new lines line replies reply first one =
      let before : AnswersEvents state old (map line_event lines) replies mid =
      subst (λ (os : List (Event OfLibrary)). AnswersEvents state old os replies mid) (phase_is lines) first in
      let more : flat_map events_of (Phase (lines ++ line ∷ []) ∷ []) ≡ map line_event lines ++ line_event line ∷ [] =
      phase_is (lines ++ line ∷ []) ∙ map-append line_event lines (line ∷ []) in
      subst (λ (os : List (Event OfLibrary)). AnswersEvents state old os (replies ++ reply ∷ []) new) (sym more)
      (events_on state old mid new (map line_event lines) (line_event line ∷ []) replies (reply ∷ []) before
      (new, one, refl))
