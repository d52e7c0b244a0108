-- Bytes that show where a line and a phase end.
use Rattle.std.proofs.Common.{◌≡◌, ℕ, ◌+◌, Bool, true, false, ◌||◌, nat_lt, List, ◌∷◌, length, take, drop, Option, Some, None, Result, Ok, Err, IfOk, position, refl, sym, ap, ◌∙◌, arith, length-take-le, ◌==◌}
use Rattle.std.specs.List.{slice_split}
use Rattle.vtl_script.specs.declared.lines.ParsedLine.{ParsedLine}
use Rattle.vtl_script.specs.declared.phases.NextLine.{NextLine}
use Rattle.vtl_script.specs.declared.faults.ScriptFault.{ScriptFault}
use Rattle.vtl_script.specs.Parsed.{without_return, parsed_line, is_phase_end, is_refused}
use Rattle.vtl_script.specs.Inner.Reading.{LineReading, shows_end}
use Rattle.vtl_script.specs.Inner.ReadItem.{ReportsRefused, has_end, shows_phase}
use Rattle.vtl_script.proofs.SplitLemmas.{split_at, split_whole, found}
use Rattle.vtl_script.proofs.PartLemmas.{first_of_split}

line_by : (is_configured : ℕ → Bool) (unread : List ℕ) (place : Option ℕ) → position (λ byte. byte == 10) unread ≡ place
    → shows_phase is_configured unread ≡ true → shows_end unread ≡ true
line_by is_configured unread None is shows =
    let long : nat_lt 2200000 (length unread) ≡ true =
    sym (ap (has_end is_configured) (split_whole (λ byte. byte == 10) unread is)) ∙ shows in
    rw (is, long) refl
line_by is_configured unread (Some count) is shows = rw is refl

-- bytes that show where a phase ends show where its first line ends
pub line_shown : (is_configured : ℕ → Bool) (unread : List ℕ) → shows_phase is_configured unread ≡ true
    → shows_end unread ≡ true
line_shown is_configured unread shows =
    line_by is_configured unread (position (λ byte. byte == 10) unread) refl shows

or_rest : (a b : Bool) → a ≡ false → (a || b) ≡ true → b ≡ true
or_rest true b none all = absurd (cc)
or_rest false b none all = all

no_end : (parsed line : ParsedLine) → parsed ≡ line → is_phase_end parsed ≡ false → is_refused parsed ≡ false
    → (is_phase_end line || is_refused line) ≡ false
no_end parsed line is inside good = rw (← is) (rw (inside, good) refl)

-- behind a line that neither ends the phase nor is refused they still do
pub shows_on : (is_configured : ℕ → Bool) (unread unread' : List ℕ) (count : ℕ) (parsed : ParsedLine)
    → position (λ byte. byte == 10) unread ≡ Some count
    → parsed ≡ parsed_line is_configured count (without_return (take count unread)) → unread' ≡ drop (count + 1) unread
    → is_phase_end parsed ≡ false → is_refused parsed ≡ false → shows_phase is_configured unread ≡ true
    → shows_phase is_configured unread' ≡ true
shows_on is_configured unread unread' count parsed h parsed_is rest inside good shows =
    let is_end : ℕ → Bool = λ byte. byte == 10 in
    let is = found is_end unread count h in
    let long : length (take count unread) ≡ count =
    length-take-le count unread (omega (arith, is.place, is.within)) in
    let first = first_of_split is_end (drop (count + 1) unread) in
    let cut : slice_split is_end unread ≡ take count unread ∷ first.part ∷ first.parts =
    split_at is_end unread count h ∙ ap (λ (parts : List (List ℕ)). take count unread ∷ parts) first.splits in
    let all : has_end is_configured (take count unread ∷ first.part ∷ first.parts) ≡ true =
    sym (ap (has_end is_configured) cut) ∙ shows in
    let line_is : parsed ≡ parsed_line is_configured (length (take count unread)) (without_return (take count unread)) =
    parsed_is ∙ ap (λ (n : ℕ). parsed_line is_configured n (without_return (take count unread))) (sym long) in
    ap (shows_phase is_configured) rest ∙ ap (has_end is_configured) first.splits
    ∙ or_rest _ _ (no_end parsed _ line_is inside good) all

-- the same of a line that is reported
pub shown_behind : (is_configured : ℕ → Bool) (old mid new : LineReading) (count : ℕ) (parsed : ParsedLine) (number : ℕ)
    (result : Result NextLine ScriptFault) → (shows_end old.unread ≡ true → mid ≡ old)
    → position (λ byte. byte == 10) mid.unread ≡ Some count
    → parsed ≡ parsed_line is_configured count (without_return (take count mid.unread))
    → new.unread ≡ drop (count + 1) mid.unread → ReportsRefused parsed false number result
    → IfOk result (λ next. shows_phase is_configured old.unread ≡ true → next.is_last ≡ false
    → is_phase_end next.parsed ≡ false → shows_phase is_configured new.unread ≡ true)
shown_behind is_configured old mid new count parsed number (Err fault) same h parsed_is rest accepts = tt
shown_behind is_configured old mid new count parsed number (Ok next) same h parsed_is rest accepts =
    λ shows on inside.
    let told : next.parsed ≡ parsed = ap (λ (n : NextLine). n.parsed) accepts.0 in
    let shown : shows_phase is_configured mid.unread ≡ true =
    ap (λ (r : LineReading). shows_phase is_configured r.unread) (same (line_shown is_configured old.unread shows))
    ∙ shows in
    shows_on is_configured mid.unread new.unread count parsed h parsed_is rest
    (ap is_phase_end (sym told) ∙ inside) accepts.1 shown

-- no line stands behind the last
pub none_behind_last : (parsed : ParsedLine) (number : ℕ) (result : Result NextLine ScriptFault)
    (P Q : NextLine → Type 0) → ReportsRefused parsed true number result
    → IfOk result (λ next. P next → next.is_last ≡ false → Q next)
none_behind_last parsed number (Err fault) P Q accepts = tt
none_behind_last parsed number (Ok next) P Q accepts = λ p on.
    let last : next.is_last ≡ true = ap (λ (n : NextLine). n.is_last) accepts.0 in absurd (cc)
