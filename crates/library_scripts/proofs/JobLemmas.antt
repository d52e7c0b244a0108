-- Jobs of hosts, one of which changes.
use Rattle.std.proofs.Common.{zero, suc, ◌≡◌, ◌≤◌, ◌<◌, ◌+◌, ◌&&◌, ℕ, nat_eq, Bool, true, false, List, [], ◌∷◌, ◌++◌, length, get_or, set, take, drop, refl, sym, ap, ◌∙◌, subst, arith}
use Rattle.std.proofs.lemmas.Bool.Decides.{nat_tests}
use Rattle.std.proofs.lemmas.Grind.{flat_map-append}
use Rattle.std.proofs.lemmas.List.{append-nil, append_assoc, length-append, length-map, take-append-drop, take_more}
use Rattle.std.proofs.lemmas.List.Folds.{list_all-append}
use Rattle.std.specs.List.{list_all}
use Rattle.scsi_sense.specs.declared.replies.Reply.{Reply}
use Rattle.vtl_script.specs.declared.lines.Line.{Line}
use Rattle.library.specs.Seats.{SeatState}
use Rattle.library_scripts.specs.Inner.InPlace.{AreInPlace}
use Rattle.library_scripts.specs.Inner.Jobs.{IsDealt, JobState, lines_of, replies_of, seats_of}

-- there is a job for each host
pub jobs_are : (jobs : List JobState) → AreInPlace (seats_of jobs) → length jobs ≡ 64
jobs_are jobs places = sym (length-map jobs (λ (j : JobState). j.seat)) ∙ places.all

-- no job has a line
pub no_lines : (jobs : List JobState) → ((k : ℕ) (d : JobState) → k < length jobs → (get_or jobs k d).lines ≡ [])
    → lines_of jobs ≡ []
no_lines [] none = refl
no_lines (job ∷ jobs) none =
    ap (λ (l : List Line). l ++ lines_of jobs) (none zero job (omega arith))
    ∙ no_lines jobs (λ k d less. none (suc k) d (omega (arith, less)))

-- a line that is added to a job comes after all others, where no later job has a line
pub lines_set : (jobs : List JobState) (i : ℕ) (job d : JobState) (line : Line)
    → i < length jobs → job.lines ≡ (get_or jobs i d).lines ++ line ∷ []
    → ((k : ℕ) (d : JobState) → i < k → k < length jobs → (get_or jobs k d).lines ≡ [])
    → lines_of (set jobs i job) ≡ lines_of jobs ++ line ∷ []
lines_set [] i job d line within grown none = absurd (omega (arith, within))
lines_set (first ∷ jobs) zero job d line within grown none =
    let rest : lines_of jobs ≡ [] =
    no_lines jobs (λ k d less. none (suc k) d (omega arith) (omega (arith, less))) in
    ap (λ (l : List Line). job.lines ++ l) rest ∙ append-nil job.lines ∙ grown
    ∙ ap (λ (l : List Line). l ++ line ∷ [])
    (sym (ap (λ (l : List Line). first.lines ++ l) rest ∙ append-nil first.lines))
lines_set (first ∷ jobs) (suc i) job d line within grown none =
    ap (λ (l : List Line). first.lines ++ l)
    (lines_set jobs i job d line (omega (arith, within)) grown
    (λ k d more less. none (suc k) d (omega (arith, more)) (omega (arith, less))))
    ∙ sym (append_assoc first.lines (lines_of jobs) (line ∷ []))

-- the replies of one more job
pub replies_more : (jobs : List JobState) (i : ℕ) (d : JobState) → i < length jobs
    → replies_of (take (i + 1) jobs) ≡ replies_of (take i jobs) ++ (get_or jobs i d).replies
replies_more jobs i d within =
    let job = get_or jobs i d in
    ap replies_of (take_more jobs i d within)
    ∙ flat_map-append (λ (j : JobState). j.replies) (take i jobs) (job ∷ [])
    ∙ ap (λ (l : List Reply). replies_of (take i jobs) ++ l) (append-nil job.replies)

-- and they are no more than those of all jobs
pub replies_within : (jobs : List JobState) (i : ℕ) (d : JobState) → i < length jobs
    → length (replies_of (take i jobs)) + length (get_or jobs i d).replies ≤ length (replies_of jobs)
replies_within jobs i d within =
    let parts : replies_of jobs ≡ replies_of (take (i + 1) jobs) ++ replies_of (drop (i + 1) jobs) =
    ap replies_of (sym (take-append-drop (i + 1) jobs))
    ∙ flat_map-append (λ (j : JobState). j.replies) (take (i + 1) jobs) (drop (i + 1) jobs) in
    omega (
      arith,
      ap length parts,
      length-append (replies_of (take (i + 1) jobs)) (replies_of (drop (i + 1) jobs)),
      ap length (replies_more jobs i d within),
      length-append (replies_of (take i jobs)) (get_or jobs i d).replies,
    )

-- two tests that are true together
both_pass : (a b : Bool) → (a && b) ≡ true → (a ≡ true) × (b ≡ true)
both_pass true b is = (refl, is)
both_pass false b is = absurd (cc)

-- where all lines pass a test, those of each job do
pub lines_pass : (p : Line → Bool) (jobs : List JobState) → list_all p (lines_of jobs) ≡ true
    → (k : ℕ) (d : JobState) → k < length jobs → list_all p (get_or jobs k d).lines ≡ true
lines_pass p [] all k d within = absurd (omega (arith, within))
lines_pass p (job ∷ jobs) all zero d within =
    (both_pass _ _ (sym (list_all-append p job.lines (lines_of jobs)) ∙ all)).0
lines_pass p (job ∷ jobs) all (suc k) d within =
    lines_pass p jobs (both_pass _ _ (sym (list_all-append p job.lines (lines_of jobs)) ∙ all)).1 k d
    (omega (arith, within))

-- numbers that are equal are found equal
equal_is : (a b : ℕ) → a ≡ b → nat_eq a b ≡ true
equal_is a b same = grind (arith, nat_tests)

both_are : (a b : Bool) → a ≡ true → b ≡ true → (a && b) ≡ true
both_are true true one two = refl
both_are true false one two = two
both_are false b one two = one

-- a job takes a line of its host
pub dealt_on : (old new : JobState) (line : Line) → IsDealt old → new.seat ≡ old.seat → new.replies ≡ old.replies
    → new.lines ≡ old.lines ++ line ∷ [] → length new.lines ≤ new.room → line.host ≡ old.seat.nexus → IsDealt new
dealt_on old new line dealt seat replies lines room host =
    let of_host : (Line → Bool) = λ (l : Line). nat_eq l.host old.seat.nexus in
    let one : list_all of_host (line ∷ []) ≡ true = both_are _ _ (equal_is line.host old.seat.nexus host) refl in
    record {
      host =
          subst (λ (s : SeatState). list_all (λ (l : Line). nat_eq l.host s.nexus) new.lines ≡ true) (sym seat)
          (ap (list_all of_host) lines ∙ list_all-append of_host old.lines (line ∷ [])
          ∙ both_are _ _ dealt.host one);
      none = replies ∙ dealt.none;
      room = room;
    }

-- a job with no line
pub dealt_none : (job : JobState) → job.lines ≡ [] → job.replies ≡ [] → IsDealt job
dealt_none job lines replies = record {
  host = ap (list_all (λ (l : Line). nat_eq l.host job.seat.nexus)) lines;
  none = replies;
  room = omega (arith, ap length lines);
}
