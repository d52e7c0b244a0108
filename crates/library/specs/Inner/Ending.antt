-- How far the end of a library has come.
use Rattle.std.specs.Prelude.{◌≡◌, ◌⊎◌, ℕ, List, [], ◌∷◌, Option, Result, Ok, Err, OnOk, OnErr}
use Rattle.tape_disk.specs.Disk.{DiskState}
use Rattle.ledgers.specs.Ledgers.{Gathered}
use Rattle.ledgers.specs.declared.gathering.SeatsMissing.{SeatsMissing}
use Rattle.bay_moves.specs.Elements.{BayState}
use Rattle.bay_moves.specs.Finish.{HasFailedAt, IsWrittenAt}
use Rattle.bay_moves.specs.declared.finishing.Unwritten.{Unwritten}
use Rattle.library.specs.Counts.{places_filled, which_are_there}
use Rattle.library.specs.Ends.{counts_of, sum_of_counts}
use Rattle.library.specs.Keeps.{IsLeftAt}
use Rattle.library.specs.declared.finishing.FinishError.{FinishError}
use Rattle.library.specs.declared.finishing.FinishError.TheVariants as Errors

-- the result at the end of a library, by what was written out and what the ledgers say
abbrev pub outcome_of :
    Result Unit Unwritten → List (Option ℕ) → Result ℕ SeatsMissing → Result (List (Option ℕ)) FinishError
outcome_of (Err unwritten) counts compared = Err Errors.Unwritten
outcome_of (Ok done) counts (Ok total) = Ok counts
outcome_of (Ok done) counts (Err missing) = Err (Errors.SeatsMissing missing.total missing.seats)

-- the first of two errors, if there is one
abbrev pub worse_of : Result Unit Unwritten → Result Unit Unwritten → Result Unit Unwritten
worse_of (Err unwritten) second = Err unwritten
worse_of (Ok done) second = second

module _ {X : Type 0} where
  -- each of these has P
  abbrev pub OfEach : (X → Type 0) → List X → Type 0
  OfEach P [] = Unit {0}
  OfEach P (x ∷ xs) = P x × OfEach P xs

module _ {D : Type 0} (state : D → DiskState) where
  -- the loaded medium of one of these drives has failed
  abbrev pub OneHasFailed : List (Option (BayState D)) → Type 0
  OneHasFailed [] = ⊥
  OneHasFailed (bay ∷ bays) = HasFailedAt state bay ⊎ OneHasFailed bays

  -- Shared drives have ended as these: each is in its place, and took a turn. The shares of all were gathered, with the
  -- changes that the drives counted. Nothing is left to write, or one has failed.
  pub record HaveEnded {X : Type 0}
      (shared : List (Option X)) (bays : List (Option (BayState D))) (gathered : Gathered)
      (written : Result Unit Unwritten) : Type 0 where
    pub there : which_are_there bays ≡ which_are_there shared
    pub shares : gathered.shares ≡ places_filled shared
    pub changes : gathered.changes ≡ sum_of_counts (counts_of bays)
    pub left : OfEach (IsLeftAt state) bays
    pub ok : OnOk written (OfEach (IsWrittenAt state) bays)
    pub err : OnErr written (OneHasFailed bays)
