-- Seats of hosts whose commands are answered.
use Rattle.std.proofs.Common.{zero, suc, ◌≡◌, ◌≢◌, ◌≤◌, ◌<◌, ◌+◌, ◌⊎◌, ◌==◌, nat_lt, inl, inr, ℕ, List, [], ◌∷◌, ◌++◌, length, get_or, set, map, Some, Result, Ok, Err, IfOk, Bool, true, false, refl, sym, ap, ◌∙◌, subst, arith}
use Rattle.std.proofs.lemmas.Bool.Decides.{nat_tests}
use Rattle.std.proofs.lemmas.List.{append-nil, get_or-set_other, get_or-set_same, length-set, map-append}
use Rattle.std.proofs.lemmas.Option.{slice_get_within}
use Rattle.std.specs.Prelude.{OnErr}
use Rattle.std.specs.List.{slice_get}
use Rattle.tape_disk.specs.Disk.{DiskState}
use Rattle.scsi_sense.specs.declared.replies.Reply.{Reply}
use Rattle.library.specs.Seats.{SeatState}
use Rattle.vtl_script.specs.Answered.{none_of_item}
use Rattle.vtl_script.specs.Runs.{AnswersSome}
use Rattle.vtl_script.specs.declared.lines.Line.{Line}
use Rattle.vtl_script.specs.declared.items.Item.{Item}
use Rattle.vtl_script.specs.declared.items.Item.TheVariants.{Phase, Move}
use Rattle.drive_commands.specs.Events.{Event, OfLibrary}
use Rattle.bay_moves.specs.Runs.{line_event, line_request}
use Rattle.library.specs.MovesAt.{IsMovedAmong}
use Rattle.library.specs.Served.{IsServed}
use Rattle.library_scripts.specs.Crews.{AnswersAllAmong, AnswersCrew, AnswersSeat, CrewState}
use Rattle.library_scripts.specs.Inner.CrewsOn.{among_on}
use Rattle.library_scripts.specs.Inner.InPlace.{AreInPlace}

module _ {X : Type 0} where
  -- the value at a place
  get_at : (xs : List X) (i : ℕ) (d : X) → i < length xs → slice_get xs i ≡ Some (get_or xs i d)
  get_at [] i d within = absurd (omega (arith, within))
  get_at (x ∷ xs) zero d within = refl
  get_at (x ∷ xs) (suc i) d within = get_at xs i d (omega (arith, within))

  found : (xs : List X) (i : ℕ) (d x : X) → slice_get xs i ≡ Some x → get_or xs i d ≡ x
  found [] i d x is = absurd (cc)
  found (y ∷ xs) zero d x is = cc
  found (y ∷ xs) (suc i) d x is = found xs i d x is

-- two numbers are the same or not
pub same_or_not : (a b : ℕ) → (a ≡ b) ⊎ (a ≢ b)
same_or_not a b = by (a == b) refl
  where
    by : (test : Bool) → (a == b) ≡ test → (a ≡ b) ⊎ (a ≢ b)
    by true is = inl (grind (arith, nat_tests))
    by false is = inr (λ same. let no : (a == b) ≡ true = grind (arith, nat_tests) in absurd (cc))

-- a number below the next one is below this one, or is this one
pub below_or_at : (k n : ℕ) → k < n + 1 → (k < n) ⊎ (k ≡ n)
below_or_at k n less = by (nat_lt k n) refl
  where
    by : (test : Bool) → nat_lt k n ≡ test → (k < n) ⊎ (k ≡ n)
    by true is = inl (grind (arith, nat_tests))
    by false is = let no : n ≤ k = grind (arith, nat_tests) in inr (omega (arith, no, less))

-- where a call fails and the crew is unchanged, nothing of the item was run
pub none_seen : {P Q T E : Type 0} (see : P → Q) (answers : Q → List Item → List Reply → Q → Type 0) (old new : P)
    (item : Item) (result : Result T E) → answers (see old) (Phase [] ∷ []) [] (see old)
    → OnErr result (see new ≡ see old)
    → OnErr result
    (AnswersSome (λ before items replies after. answers (see before) items replies (see after)) old item new)
none_seen see answers old new item (Ok done) empty same = tt
none_seen see answers old new item (Err fault) empty same =
    let none = none_of_item answers (see old) item empty in
    record {
      part = none.part;
      begins = none.begins;
      replies = none.replies;
      answered = subst (λ q. answers (see old) (none.part ∷ []) none.replies q) (sym same) none.answered;
    }

-- the seat of a host has its place
pub host_at : (seats : List SeatState) (i : ℕ) (d : SeatState) (host : ℕ) → AreInPlace seats → i < 64
    → i + 1 ≡ host → host ≡ (get_or seats i d).nexus
host_at seats i d host places within is = sym is ∙ sym (places.each i d within)

module _ {D : Type 0} (state : D → DiskState) where
  -- a line is answered for the host of a seat
  pub line_at : (seats : List SeatState) (i : ℕ) (d after : SeatState) (line : Line) (reply : Reply)
      → i < length seats → IsServed state (line_request line) (get_or seats i d) reply after
      → AnswersSeat state seats (line_request line) reply (set seats i after)
  line_at seats i d after line reply within served = record {
    place = i;
    before = get_or seats i d;
    after = after;
    seat = get_at seats i d within;
    served = served;
    seats = refl;
  }

  -- a line leaves each seat in its place
  pub line_in_place : (old new : List SeatState) (line : Line) (reply : Reply) → AnswersSeat state old
      (line_request line) reply new
      → AreInPlace old → AreInPlace new
  line_in_place old new line reply one places =
      subst AreInPlace (sym one.seats) (record {
        all = length-set old one.place one.after ∙ places.all;
        each = λ i d less. by i d less (same_or_not i one.place);
      })
    where
      within : one.place < length old
      within = slice_get_within old one.place one.before one.seat

      by : (i : ℕ) (d : SeatState) → i < 64 → (i ≡ one.place) ⊎ (i ≢ one.place)
          → (get_or (set old one.place one.after) i d).nexus ≡ i + 1
      by i d less (inl here) =
          let put : get_or (set old one.place one.after) i d ≡ one.after =
          subst (λ (k : ℕ). get_or (set old one.place one.after) k d ≡ one.after) (sym here)
          (get_or-set_same old one.place one.after d within) in
          let was : get_or old i d ≡ one.before =
          subst (λ (k : ℕ). get_or old k d ≡ one.before) (sym here) (found old one.place d one.before one.seat) in
          ap (λ (s : SeatState). s.nexus) put ∙ one.served.grows.nexus
          ∙ sym (ap (λ (s : SeatState). s.nexus) was) ∙ places.each i d less
      by i d less (inr other) =
          ap (λ (s : SeatState). s.nexus) (get_or-set_other old one.place i one.after d other)
          ∙ places.each i d less

  -- the answered lines, and one more
  pub lines_on : (drives : List Bool) (old mid new : List SeatState) (lines : List Line) (line : Line)
      (replies : List Reply) (reply : Reply)
      → AnswersAllAmong state drives old (map line_event lines) replies mid → AnswersSeat state mid (line_request line)
      reply new
      → AnswersAllAmong state drives old (map line_event (lines ++ line ∷ [])) (replies ++ reply ∷ []) new
  lines_on drives old mid new lines line replies reply first one =
      subst (λ (events : List (Event OfLibrary)). AnswersAllAmong state drives old events (replies ++ reply ∷ []) new)
      (sym (map-append line_event lines (line ∷ [])))
      (among_on state drives old mid new (map line_event lines) (line_event line ∷ []) replies (reply ∷ []) first
      (new, one, refl))

  -- where a phase's lines are answered, the crew answers the phase
  pub phase_answers : {V E : Type 0} (items : V → List Reply) (drives : List Bool) (old new : List SeatState)
      (moved : ℕ) (lines : List Line) (result : Result V E)
      → IfOk result (λ v. AnswersAllAmong state drives old (map line_event lines) (items v) new)
      → IfOk result (λ v. AnswersCrew state (record { drives = drives; seats = old; moved = moved }) (Phase lines ∷ [])
      (items v) (record { drives = drives; seats = new; moved = moved }))
  phase_answers items drives old new moved lines (Ok v) done = record {
    drives = refl;
    answered =
        subst (λ (events : List (Event OfLibrary)). AnswersAllAmong state drives old events (items v) new)
        (sym (append-nil (map line_event lines))) done;
    moved = omega arith;
  }
  phase_answers items drives old new moved lines (Err fault) done = tt

  -- where a cartridge is moved, the crew answers the move
  pub move_answers : (crew : CrewState) (from to : ℕ) (reply : Reply) → IsMovedAmong state crew.drives from to reply
      → AnswersCrew state crew (Move from to ∷ []) (reply ∷ [])
      (record { drives = crew.drives; seats = crew.seats; moved = crew.moved + 1 })
  move_answers crew from to reply moved = record {
    drives = refl;
    answered = (crew.seats, (moved, refl), refl);
    moved = omega arith;
  }
