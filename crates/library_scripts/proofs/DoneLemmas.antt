-- Jobs that are dealt and done.
use Rattle.std.proofs.Common.{◌≡◌, ◌<◌, ◌++◌, ℕ, Bool, true, List, [], length, get_or, take, drop, Result, Ok, Err, sym, ap, ◌∙◌, subst, arith}
use Rattle.std.proofs.Math.Seq.{take-append_seam}
use Rattle.std.specs.Prelude.{OnOk}
use Rattle.std.proofs.lemmas.List.{length-map, get_or-map}
use Rattle.std.specs.List.{All, list_all}
use Rattle.tape_disk.specs.Disk.{DiskState}
use Rattle.library.specs.Seats.{SeatState}
use Rattle.vtl_script.specs.declared.lines.Line.{Line}
use Rattle.library.specs.Counts.{has_drive}
use Rattle.library.proofs.SessionLemmas.{session_host}
use Rattle.library_scripts.specs.Inner.InPlace.{AreInPlace}
use Rattle.library_scripts.specs.Inner.Jobs.{AreDone, IsDealt, IsReady, JobState, lines_of, seats_of}
use Rattle.library_scripts.proofs.JobLemmas.{lines_pass}

-- what a call left of all values of a vector
pub refilled : {X : Type 0} (n : ℕ) (xs ys : List X) → length xs ≡ n → take n (xs ++ drop (length xs) ys) ≡ xs
refilled n xs ys same =
    subst (λ (k : ℕ). take k (xs ++ drop (length xs) ys) ≡ xs) same (take-append_seam xs (drop (length xs) ys))

module _ {D : Type 0} (state : D → DiskState) where
  -- each seat is still in its place
  pub done_in_place : (old new : List JobState) → length new ≡ length old → AreDone state old new
      → AreInPlace (seats_of old) → AreInPlace (seats_of new)
  done_in_place old new long done places = record {
    all =
        length-map new (λ (j : JobState). j.seat) ∙ long ∙ sym (length-map old (λ (j : JobState). j.seat))
        ∙ places.all;
    each = λ i d less.
        let e : JobState = record { seat = d; lines = []; replies = []; room = 0 } in
        let within : i < length old =
        omega (arith, less, places.all, length-map old (λ (j : JobState). j.seat)) in
        ap (λ (s : SeatState). s.nexus)
        (get_or-map (λ (j : JobState). j.seat) new i e d (omega (arith, within, long)))
        ∙ session_host state (get_or old i e).seat (get_or new i e).seat (get_or old i e).lines (get_or new i e).replies
        (done i e within)
        ∙ ap (λ (s : SeatState). s.nexus) (sym (get_or-map (λ (j : JobState). j.seat) old i e d within))
        ∙ places.each i d less;
  }

-- jobs with lines of their hosts, for configured drives, are ready
pub dealt_ready : (drives : List Bool) (jobs : List JobState) → All IsDealt jobs
    → list_all (λ line. has_drive drives line.drive) (lines_of jobs) ≡ true → All (IsReady drives) jobs
dealt_ready drives jobs dealt configured k d less = record {
  dealt = dealt k d less;
  configured = lines_pass (λ line. has_drive drives line.drive) jobs configured k d less;
}

pub if_dealt_ready : {V E : Type 0} (drives : List Bool) (n : ℕ) (jobs others : List JobState) (lines : List Line)
    (result : Result V E) → length jobs ≡ n → OnOk result (All IsDealt jobs) → OnOk result (lines_of jobs ≡ lines)
    → list_all (λ line. has_drive drives line.drive) lines ≡ true
    → OnOk result (All (IsReady drives) (take n (jobs ++ drop (length jobs) others)))
if_dealt_ready drives n jobs others lines (Ok done) long dealt are configured =
    subst (λ (l : List JobState). All (IsReady drives) l) (sym (refilled n jobs others long))
    (dealt_ready drives jobs dealt
    (subst (λ (l : List Line). list_all (λ line. has_drive drives line.drive) l ≡ true) (sym are) configured))
if_dealt_ready drives n jobs others lines (Err fault) long dealt are configured = tt
