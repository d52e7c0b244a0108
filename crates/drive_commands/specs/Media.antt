-- What the calls that take a medium in, or give the drive a turn, do to a drive over any medium.
use Rattle.std.specs.Prelude.{◌≡◌, [], true, false, Option, None, Some, option_map, Result, Ok, Err}
use Rattle.vtl_base.specs.Below.{Below, Advances}
use Rattle.vtl_base.specs.declared.faults.NoMemory.{NoMemory}
use Rattle.scsi_sense.specs.declared.replies.Reply.{Reply}
use Rattle.scsi_sense.specs.Replies.{good_with, check_with}
use Rattle.scsi_sense.specs.Senses.{medium_not_present}
use Rattle.pr_core.specs.declared.states.PrState.{PrState}
use Rattle.pr_core.specs.Keepers.{KeeperState}
use Rattle.volume_core.specs.declared.changes.Change.{Change}
use Rattle.volume_core.specs.declared.media.MediumError.{MediumError}
use Rattle.volume_core.specs.declared.media.MediumError.TheVariants as Errors
use Rattle.volume_core.specs.declared.media.Turn.{Turn}
use Rattle.volume_core.specs.Medium.{MediumState, Parks, Wakes, met_fault, turn_met_fault}
use Rattle.drive_commands.specs.declared.bays.Bay.{Bay}
use Rattle.drive_commands.specs.declared.bays.Bay.TheVariants.{Empty, Unloaded, Loaded}
use Rattle.drive_commands.specs.declared.faults.Fault.{Fault}
use Rattle.drive_commands.specs.declared.faults.Fault.TheVariants.{Writing}
use Rattle.volume_core.specs.Stores.{Stores}
use Rattle.drive_commands.specs.LoadUnload.{emptied}
use Rattle.drive_commands.specs.State.{Machine, DriveState, bay_of, machine_of, medium_in, loaded, powered_on}
use Rattle.drive_commands.specs.Faults.{fault_reply, reply_of}
use Rattle.drive_commands.specs.Relations.{made_nothing}
use Rattle.drive_commands.specs.Load.{wake_answer, bay_when_on}
use Rattle.drive_commands.specs.Events.{FlushTurn, Insert, Load, PowerOn, Unload}
use Rattle.drive_commands.specs.Step.{Answered, Unanswered, Step}
use Rattle.drive_commands.specs.Turn.{TurnsIn, turn_outcome}
use Rattle.drive_commands.specs.Execute.{AdvancesIn, OpensAlone, StoresIn, HonestIn}

-- what a loading is answered: GOOD, or the reply that came back with the medium (own)
abbrev pub load_reply : {M : Type 0} → Result Unit (M × Reply) → Reply
load_reply (Ok done) = good_with []
load_reply (Err back) = back.1

-- what an unloading is answered: GOOD where the medium goes out, or the reply (own)
abbrev pub unload_reply : {M : Type 0} → Result M Reply → Reply
unload_reply (Ok out) = good_with []
unload_reply (Err reply) = reply

module _ {M : Type 0} (state : M → MediumState) (below : Below M Change) where
  -- a medium was opened, with this result, and its side was left alone (own)
  pub record WakesAs (old : M) (woke : Result Unit MediumError) (new : M) : Type 0 where
    pub answer : Wakes (below.honest old) (state old) woke (state new)
    pub advances : Advances below old [] (met_fault woke) new
    pub alone : below.left_alone old new

  -- a medium was parked; or comes back, since the device failed (own)
  abbrev pub ParksFrom : M → Result M M → Type 0
  ParksFrom given (Ok parked) =
      Parks (below.honest given) (state given) (Ok tt) (state parked) × Advances below given [] false parked
  ParksFrom given (Err broken) =
      Parks (below.honest given) (state given) (Err Errors.Device) (state broken)
      × Stores (state given) [] (state broken) × Advances below given [] true broken

  module _ {K : Type 0} where
    -- a medium is opened and loaded, or comes back with a reply, and the drive is as it was (own)
    abbrev pub TakesIn : DriveState M K → M → Result Unit (M × Reply) → DriveState M K → Type 0
    TakesIn old given (Ok done) new = (opened : M) × WakesAs given (Ok tt) opened × (new ≡ loaded old opened)
    TakesIn old given (Err back) new =
        (error : MediumError) × WakesAs given (Err error) back.0 × (back.1 ≡ reply_of (wake_answer error))
        × (new ≡ old)

    -- what is in this bay goes out of the drive, parked; or nothing is there; or the device failed, and the medium
    -- stays loaded (own)
    abbrev pub GoesOutOf : Bay M → DriveState M K → Result M Reply → DriveState M K → Type 0
    GoesOutOf Empty old (Ok out) new = ⊥
    GoesOutOf Empty old (Err reply) new = (reply ≡ check_with medium_not_present []) × (new ≡ old)
    GoesOutOf (Unloaded given) old (Ok out) new = (out ≡ given) × (new ≡ emptied old given)
    GoesOutOf (Unloaded given) old (Err reply) new = ⊥
    GoesOutOf (Loaded given) old (Ok out) new = ParksFrom given (Ok out) × (new ≡ emptied old given)
    GoesOutOf (Loaded given) old (Err reply) new =
        (broken : M) × ParksFrom given (Err broken) × (reply ≡ fault_reply Writing)
        × (new ≡ record old { bay = Loaded broken })

    -- what is in the drive goes out of it (own)
    abbrev pub GoesOut : DriveState M K → Result M Reply → DriveState M K → Type 0
    GoesOut old result new = GoesOutOf old.bay old result new

    -- a drive is switched on with the medium as it opened, if any, these reservations and this keeper; where memory
    -- runs out, medium and keeper come back (own)
    abbrev pub SwitchesOn :
        Option M → PrState → K → Result (DriveState M K) (Option M × K × NoMemory) → Type 0
    SwitchesOn None reservations keeper (Ok new) = new ≡ powered_on Empty reservations keeper
    SwitchesOn None reservations keeper (Err back) = ⊥
    SwitchesOn (Some given) reservations keeper (Ok new) =
        (woke : Result Unit MediumError) × (opened : M) × (bay : Bay M)
        × WakesAs given woke opened × (bay_when_on woke opened ≡ Some bay)
        × (new ≡ powered_on bay reservations keeper)
    SwitchesOn (Some given) reservations keeper (Err back) =
        (opened : M) × WakesAs given (Err Errors.NoMemory) opened × (back.0 ≡ Some opened) × (back.1 ≡ keeper)

    module _ (kept : K → KeeperState) where
      -- a flusher's turn is a step of the machine, the medium follows, the keeper is not touched, and the count stays
      -- (own)
      pub record TakesTurn (old : DriveState M K) (turn : Turn) (new : DriveState M K) : Type 0 where
        pub step :
            Step (HonestIn below (medium_in old.bay)) (machine_of state kept old)
            FlushTurn (Unanswered (turn_outcome turn)) made_nothing (machine_of state kept new)
        pub advances : AdvancesIn below (medium_in old.bay) [] (turn_met_fault turn) (medium_in new.bay)
        pub turns : TurnsIn (bay_of state old.bay) (machine_of state kept old) turn (machine_of state kept new)
        pub stores : StoresIn state old.bay [] new.bay
        pub alone : OpensAlone below old.bay (medium_in new.bay)
        pub keeper : new.keeper ≡ old.keeper
        pub accepted : new.accepted ≡ old.accepted

      -- what a loading does is a step of the machine (own)
      pub record LoadSteps
          (old : DriveState M K) (given : M) (result : Result Unit (M × Reply)) (new : DriveState M K) : Type 0 where
        pub answer : Result Reply Fault
        pub replied : load_reply result ≡ reply_of answer
        pub step :
            Step (below.honest given) (machine_of state kept old)
            (Load (state given)) (Answered answer) made_nothing (machine_of state kept new)

      -- that a parked medium is put into a drive is a step of the machine (own)
      abbrev pub InsertSteps : DriveState M K → M → DriveState M K → Type 0
      InsertSteps old given new =
          Step (below.honest given) (machine_of state kept old)
          (Insert (state given)) (Unanswered (Ok tt)) made_nothing (machine_of state kept new)

      -- what an unloading does is a step of the machine (own)
      pub record UnloadSteps (old : DriveState M K) (result : Result M Reply) (new : DriveState M K) : Type 0 where
        pub answer : Result Reply Fault
        pub replied : unload_reply result ≡ reply_of answer
        pub step :
            Step (HonestIn below (medium_in old.bay)) (machine_of state kept old)
            Unload (Answered answer) made_nothing (machine_of state kept new)

      -- what a power on does is a step of the machine, whatever it was before (own)
      pub record PowerOnSteps (given : Option M) (keeper : K) (new : DriveState M K) : Type 0 where
        pub outcome : Result Unit Fault
        pub step :
            (old : Machine)
            → Step (HonestIn below given) old
            (PowerOn (option_map state given) (kept keeper)) (Unanswered outcome) made_nothing
            (machine_of state kept new)
