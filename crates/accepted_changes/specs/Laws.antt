-- What holds of all accepting types, whatever their rules are.
use Rattle.std.specs.Prelude.{◌≡◌, ◌⊎◌, ◌++◌, ℕ, List, [], ◌∷◌, true, false, take}
use Rattle.accepted_changes.specs.Device.{Device}
use Rattle.accepted_changes.specs.Core.{Rules, Core, CoreStep, Ack, Tell, Stop, Rebase, IsCore, IsKept, IsPrefix, IsWorking, AllStepTo, CanAcknowledge, NeverRebases, NoneAck, NoneRebases, NoneStop, NoneTell, StepsTo, accepted_in}
use Rattle.accepted_changes.specs.Events.{CoreMoves, GivesAcknowledged, IsEvent, ShowsCore}
use Rattle.accepted_changes.specs.Rebasing.{FailsToRebase, GivesKept, Rebases, ShowsRebase}

module _ (rules : Rules) where
  -- what was accepted at an acknowledgement survives in what is accepted after any further steps, stops among them
  -- (own)
  abbrev pub AcknowledgedIsKept : Type 0
  AcknowledgedIsKept =
      (first acked last : Core rules.Base rules.Item) (before after : List (CoreStep rules.Item))
      → IsCore first → AllStepTo rules first before acked → AllStepTo rules acked (Ack ∷ after) last
      → IsKept rules acked.base acked.accepted last.base last.accepted

  -- what is safe survives in what is accepted after any further steps, stops among them (own)
  abbrev pub SafeIsKept : Type 0
  SafeIsKept =
      (old new : Core rules.Base rules.Item) (steps : List (CoreStep rules.Item))
      → IsCore old → AllStepTo rules old steps new
      → IsKept rules old.base (take old.safe old.accepted) new.base new.accepted

  -- steps lead from a well-formed core to another, with the same base where the rules never change it (own)
  abbrev pub StepsKeepCores : Type 0
  StepsKeepCores =
      (old new : Core rules.Base rules.Item) (steps : List (CoreStep rules.Item))
      → IsCore old → AllStepTo rules old steps new → IsCore new × (NeverRebases rules → new.base ≡ old.base)

  -- What is accepted after further steps begins with what was accepted at an acknowledgement. Stops may be among the
  -- steps; none changes the base, and it stays (own).
  abbrev pub AcknowledgedBegins : Type 0
  AcknowledgedBegins =
      (first acked last : Core rules.Base rules.Item) (before after : List (CoreStep rules.Item))
      → IsCore first → AllStepTo rules first before acked → AllStepTo rules acked (Ack ∷ after) last
      → NoneRebases after → (last.base ≡ acked.base) × IsPrefix acked.accepted last.accepted

  -- where the base never changes, a list begins with the items that survive in it (own)
  abbrev pub KeptBegins : Type 0
  KeptBegins =
      NeverRebases rules → (base base' : rules.Base) (items items' : List rules.Item)
      → IsKept rules base items base' items' → (base' ≡ base) × IsPrefix items items'

  -- items that survive in others, which themselves survive in a third list, survive in the third: so calls chain with
  -- changes of base (own)
  abbrev pub KeptStaysKept : Type 0
  KeptStaysKept =
      (base base' base'' : rules.Base) (items items' items'' : List rules.Item)
      → IsKept rules base items base' items' → IsKept rules base' items' base'' items''
      → IsKept rules base items base'' items''

  -- the device failed, whether that was reported or not (own)
  abbrev pub HadFault : Core rules.Base rules.Item → Type 0
  HadFault core = (core.fault ≡ true) ⊎ (core.stuck ≡ true)

  -- What stays after a fault while no stop comes. Nothing more is stored or acknowledged, and nothing is made safe, but
  -- what an earlier stop left. Once the fault was reported, nothing is accepted (own).
  pub record StaysBroken
      (old : Core rules.Base rules.Item) (steps : List (CoreStep rules.Item)) (new : Core rules.Base rules.Item)
      : Type 0 where
    pub broken : HadFault new
    pub stored : new.stored ≡ old.stored
    pub safe : old.recovering ≡ false → (new.recovering ≡ false) × (new.safe ≡ old.safe)
    pub acks : NoneAck steps
    pub reported :
        old.fault ≡ true → (new.fault ≡ true) × (new.accepted ≡ old.accepted) × (accepted_in steps ≡ [])

  -- this holds for any list of steps without a stop, from a core whose device failed (own)
  abbrev pub FaultsStayUntilStopped : Type 0
  FaultsStayUntilStopped =
      (old new : Core rules.Base rules.Item) (steps : List (CoreStep rules.Item)) → AllStepTo rules old steps new
      → NoneStop steps → HadFault old → StaysBroken old steps new

  -- after a stop the device works, whatever it was before (own)
  abbrev pub StopsClearFaults : Type 0
  StopsClearFaults =
      (old new : Core rules.Base rules.Item) (kept : ℕ) → StepsTo rules old (Stop kept) new → IsWorking new

  -- to report a fault a second time changes nothing (own)
  abbrev pub IsToldOnce : Type 0
  IsToldOnce =
      (old mid new : Core rules.Base rules.Item) → StepsTo rules old Tell mid → StepsTo rules mid Tell new → new ≡ mid

module _ (rules : Rules) (device : Device rules.Image) where
  -- where nothing is done, nothing is accepted (own)
  abbrev pub NothingMoves : Type 0
  NothingMoves =
      (disk : device.State) (core : Core rules.Base rules.Item) → (device.honest disk → device.sound disk)
      → CoreMoves rules device disk disk core core []

  -- two runs, one after another, accept the items of both (own)
  abbrev pub MovesAppend : Type 0
  MovesAppend =
      (a b c : device.State) (old mid new : Core rules.Base rules.Item) (first second : List rules.Item)
      → CoreMoves rules device a b old mid first → CoreMoves rules device b c mid new second
      → CoreMoves rules device a c old new (first ++ second)

  -- Where all was acknowledged and more was accepted since: at each moment since, a crash leaves an image that gives
  -- all that was acknowledged, and a first part of what was accepted since, whatever stops came between (own).
  abbrev pub CrashesKeepAcknowledged : Type 0
  CrashesKeepAcknowledged =
      (disk disk' : device.State) (old new : Core rules.Base rules.Item) (made : List rules.Item)
      → device.honest disk → IsCore old → CanAcknowledge old → device.each disk (ShowsCore rules old)
      → CoreMoves rules device disk disk' old new made
      → (event : IsEvent rules device disk disk' old new made)
      × device.leaves disk disk' (GivesAcknowledged rules old event.steps)

  -- A call without a failure drops nothing, where no fault was reported before it, nor one of before it is reported in
  -- it: what was accepted before it and in it is accepted after it (own).
  abbrev pub CallsDropNothing : Type 0
  CallsDropNothing =
      (disk disk' : device.State) (old new : Core rules.Base rules.Item) (made : List rules.Item)
      → device.failures disk' ≡ device.failures disk → IsCore old → old.fault ≡ false → old.recovering ≡ false
      → (event : IsEvent rules device disk disk' old new made) → (old.stuck ≡ false) ⊎ NoneTell event.steps
      → new.accepted ≡ old.accepted ++ made

  -- after an event the core is well-formed, the base is the same, and what is accepted begins with what was safe (own)
  pub record KeptInEvent (old new : Core rules.Base rules.Item) : Type 0 where
    pub core : IsCore new
    pub base : new.base ≡ old.base
    pub safe : IsPrefix (take old.safe old.accepted) new.accepted

  -- this holds after each event, and none of its steps changes the base (own)
  abbrev pub EventsKeepBase : Type 0
  EventsKeepBase =
      (disk disk' : device.State) (old new : Core rules.Base rules.Item) (made : List rules.Item) → IsCore old
      → (event : IsEvent rules device disk disk' old new made) → NoneRebases event.steps × KeptInEvent old new

  -- A change of base is one step, and its images are those of that step. What was accepted before survives after it,
  -- and at each moment of it in what an image gives (own).
  pub record KeptInRebase (disk disk' : device.State) (old new : Core rules.Base rules.Item) : Type 0 where
    pub steps : AllStepTo rules old (Rebase ∷ []) new
    pub core : IsCore new
    pub kept : IsKept rules old.base old.accepted new.base new.accepted
    pub shows :
        device.honest disk → device.each disk (ShowsCore rules old) → ShowsRebase rules device disk disk' old new
    pub moments :
        device.honest disk → device.each disk (ShowsCore rules old)
        → device.leaves disk disk' (GivesKept rules old.base old.accepted)

  -- this holds for each change of base (own)
  abbrev pub RebasesKeepAccepted : Type 0
  RebasesKeepAccepted =
      (disk disk' : device.State) (old new : Core rules.Base rules.Item) → IsCore old
      → Rebases rules device disk disk' old new → KeptInRebase disk disk' old new

  -- where the device fails in a change of base, what was accepted before survives in what an image gives, at each
  -- moment of it (own)
  abbrev pub FailuresKeepAccepted : Type 0
  FailuresKeepAccepted =
      (disk disk' : device.State) (old : Core rules.Base rules.Item) (base : rules.Base) → IsCore old
      → FailsToRebase rules device disk disk' old base → device.honest disk → device.each disk (ShowsCore rules old)
      → device.leaves disk disk' (GivesKept rules old.base old.accepted)
