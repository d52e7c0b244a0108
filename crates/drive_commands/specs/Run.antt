-- Runs of the machine, and of a drive: one event after another.
use Rattle.std.specs.Prelude.{◌≡◌, ◌++◌, List, [], ◌∷◌, map, Option, None, Some, Result, refl}
use Rattle.std.proofs.Common.{subst}
use Rattle.vtl_base.specs.Below.{Below}
use Rattle.scsi_sense.specs.declared.replies.Reply.{Reply}
use Rattle.pr_core.specs.declared.states.PrState.{PrState}
use Rattle.pr_core.specs.Keepers.{KeeperState}
use Rattle.volume_core.specs.declared.changes.Change.{Change}
use Rattle.volume_core.specs.declared.media.Turn.{Turn}
use Rattle.volume_core.specs.Medium.{MediumState}
use Rattle.drive_commands.specs.declared.faults.Fault.{Fault}
use Rattle.drive_commands.specs.Faults.{reply_of}
use Rattle.drive_commands.specs.State.{Machine, DriveState, machine_of, medium_in}
use Rattle.drive_commands.specs.Relations.{Made, made_nothing, made_after}
use Rattle.drive_commands.specs.Work.{Request}
use Rattle.drive_commands.specs.Events.{Event, Execute, FlushTurn, OfDrive}
use Rattle.drive_commands.specs.Step.{Output, Answered, Step, reply_in}
use Rattle.drive_commands.specs.Execute.{Answers, HonestIn}
use Rattle.drive_commands.specs.Media.{TakesTurn}

-- from old, this may come of these events one after another, make this and leave new (own)
abbrev pub Run : Type 0 → Machine → List (Event OfDrive) → List Output → Made → Machine → Type 0
Run honest old [] [] made new = (made ≡ made_nothing) × (new ≡ old)
Run honest old (event ∷ events) (output ∷ outputs) made new =
    (mid : Machine) × (first : Made) × (rest : Made)
    × Step honest old event output first mid × Run honest mid events outputs rest new
    × (made ≡ made_after first rest)
Run honest old [] (output ∷ outputs) made new = ⊥
Run honest old (event ∷ events) [] made new = ⊥

-- a run and one that goes on from it are one run (own)
abbrev pub RunsAppend : Type 0
RunsAppend =
    (old mid new : Machine) (first rest : List (Event OfDrive)) (outputs others : List Output) (made more : Made)
    → Run (Unit {0}) old first outputs made mid → Run (Unit {0}) mid rest others more new
    → Run (Unit {0}) old (first ++ rest) (outputs ++ others) (made_after made more) new

module _ {M K : Type 0}
    (state : M → MediumState) (below : Below M Change) (kept : K → KeeperState) (keeps : Below K PrState) where
  -- hosts are answered one after another by one drive, each from where the one before left it (own)
  abbrev pub Serves : DriveState M K → List Request → List Reply → DriveState M K → Type 0
  Serves old [] [] new = new ≡ old
  Serves old (request ∷ requests) (reply ∷ replies) new =
      (mid : DriveState M K) × Answers state below kept keeps old request reply mid × Serves mid requests replies new
  Serves old [] (reply ∷ replies) new = ⊥
  Serves old (request ∷ requests) [] new = ⊥

  -- what a drive answers to hosts is a run of its machine, over a medium that is honest where it was at its start (own)
  pub record IsRun
      (old : DriveState M K) (requests : List Request) (replies : List Reply) (new : DriveState M K) : Type
      0 where
    pub answers : List (Result Reply Fault)
    pub replied : replies ≡ map reply_of answers
    pub made : Made
    pub run :
        Run (HonestIn below (medium_in old.bay)) (machine_of state kept old)
        (map Execute requests) (map Answered answers) made (machine_of state kept new)

  -- hosts that are served are answered by a run of the machine (own)
  abbrev pub ServedByRuns : Type 0
  ServedByRuns =
      (old new : DriveState M K) (requests : List Request) (replies : List Reply)
      → Serves old requests replies new → IsRun old requests replies new

  -- one event of a drive that stays switched on, with its medium: a command or a flusher's turn, with the reply that a
  -- host had of it, if any (own)
  abbrev pub Happens : DriveState M K → Event OfDrive → Option Reply → DriveState M K → Type 0
  Happens old (Execute request) (Some reply) new = Answers state below kept keeps old request reply new
  Happens old FlushTurn None new = (turn : Turn) × TakesTurn state below kept old turn new
  Happens old _ _ new = ⊥

  -- such events of one drive, each from where the one before left it (own)
  abbrev pub AllHappen : DriveState M K → List (Event OfDrive) → List (Option Reply) → DriveState M K → Type 0
  AllHappen old [] [] new = new ≡ old
  AllHappen old (event ∷ events) (reply ∷ replies) new =
      (mid : DriveState M K) × Happens old event reply mid × AllHappen mid events replies new
  AllHappen old _ _ new = ⊥

  -- events of a drive are a run of its machine, a flusher's turn where each stood, with the replies that hosts had,
  -- over a medium that is honest where it was at its start (own)
  pub record IsRunOf
      (old : DriveState M K) (events : List (Event OfDrive)) (replies : List (Option Reply)) (new : DriveState M K)
      : Type 0 where
    pub outputs : List Output
    pub replied : replies ≡ map reply_in outputs
    pub made : Made
    pub run :
        Run (HonestIn below (medium_in old.bay)) (machine_of state kept old) events outputs made
        (machine_of state kept new)

  -- hosts that are served, and flusher's turns between them, are a run of the machine (own)
  abbrev pub EventsAreRuns : Type 0
  EventsAreRuns =
      (old new : DriveState M K) (events : List (Event OfDrive)) (replies : List (Option Reply))
      → AllHappen old events replies new → IsRunOf old events replies new

  -- no request is answered by standing still
  pub serves_none : (drive : DriveState M K) → Serves drive [] [] drive
  serves_none drive = refl

  -- what was served goes on by what is served from there
  pub serves_append :
      (old mid new : DriveState M K) (first rest : List Request) (replies others : List Reply)
      → Serves old first replies mid → Serves mid rest others new
      → Serves old (first ++ rest) (replies ++ others) new
  serves_append old mid new [] rest [] others one two =
      subst (λ (drive : DriveState M K). Serves drive rest others new) one two
  serves_append old mid new (request ∷ first) rest (reply ∷ replies) others one two =
      (one.0, one.1, serves_append one.0 mid new first rest replies others one.2 two)
  serves_append old mid new [] rest (reply ∷ replies) others one two = absurd one
  serves_append old mid new (request ∷ first) rest [] others one two = absurd one
