-- The lines of a session.
use Rattle.std.proofs.Common.{◌≡◌, ◌<◌, ℕ, nat_eq, Bool, true, false, List, [], ◌∷◌, ◌++◌, length, get_or, refl, sym, ap, ◌∙◌, subst, arith}
use Rattle.std.proofs.lemmas.List.Folds.{list_all_at}
use Rattle.std.proofs.lemmas.Bool.Decides.{nat_tests}
use Rattle.std.specs.List.{list_all}
use Rattle.tape_disk.specs.Disk.{DiskState}
use Rattle.scsi_sense.specs.declared.replies.Reply.{Reply}
use Rattle.library.specs.Seats.{SeatState}
use Rattle.vtl_script.specs.declared.lines.Line.{Line}
use Rattle.bay_moves.specs.Runs.{line_request}
use Rattle.library.specs.Served.{IsServed}
use Rattle.library.specs.Sessions.{AnswersSession}

-- each of some lines passes
pub passes_at : (p : Line → Bool) (lines : List Line) (i : ℕ) (line : Line) → list_all p lines ≡ true
    → i < length lines → line ≡ get_or lines i line → p line ≡ true
passes_at p lines i line all within is = by (p line) refl
  where
    by : (test : Bool) → p line ≡ test → p line ≡ true
    by true holds = holds
    by false fails =
        let none : list_all p lines ≡ false = list_all_at p lines i line within (ap p (sym is) ∙ fails) in absurd (cc)

-- numbers that are found equal are equal
pub equal_if : (a b : ℕ) → nat_eq a b ≡ true → a ≡ b
equal_if a b is = grind (arith, nat_tests)

module _ {D : Type 0} (state : D → DiskState) where
  -- a session with one more line
  pub session_on : (before mid after : SeatState) (lines : List Line) (line : Line) (replies : List Reply)
      (reply : Reply)
      → AnswersSession state before lines replies mid → IsServed state (line_request line) mid reply after
      → AnswersSession state before (lines ++ line ∷ []) (replies ++ reply ∷ []) after
  session_on before mid after [] line [] reply first one =
      (after, subst (λ (s : SeatState). IsServed state (line_request line) s reply after) first one, refl)
  session_on before mid after (other ∷ lines) line (given ∷ replies) reply first one =
      (first.0, first.1, session_on first.0 mid after lines line replies reply first.2 one)
  session_on before mid after [] line (given ∷ replies) reply first one = absurd first
  session_on before mid after (other ∷ lines) line [] reply first one = absurd first

  -- the host of a seat stays
  pub session_host : (before after : SeatState) (lines : List Line) (replies : List Reply)
      → AnswersSession state before lines replies after → after.nexus ≡ before.nexus
  session_host before after [] [] done = ap (λ (s : SeatState). s.nexus) done
  session_host before after (line ∷ lines) (reply ∷ replies) done =
      session_host done.0 after lines replies done.2 ∙ done.1.grows.nexus
  session_host before after [] (reply ∷ replies) done = absurd done
  session_host before after (line ∷ lines) [] done = absurd done
