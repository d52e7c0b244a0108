-- LOAD UNLOAD is a step of the drive, whatever is in it.
use Rattle.std.proofs.Common.{◌≡◌, inl, inr, List, [], ℕ, Result, Ok, Err, Bool, true, false, refl, sym, ap, subst}
use Rattle.vtl_base.specs.Below.{Below, Advances}
use Rattle.scsi_attention.specs.AttentionSets.{AttentionSet}
use Rattle.scsi_attention.specs.declared.attention_sets.Attention.TheVariants.{MediumChanged}
use Rattle.scsi_attention.specs.Attentions.{established_for_others}
use Rattle.scsi_sense.specs.declared.replies.Reply.{Reply}
use Rattle.scsi_sense.specs.Replies.{check_with, good_with}
use Rattle.scsi_sense.specs.Senses.{medium_failed, medium_not_present}
use Rattle.pr_core.specs.declared.states.PrState.{PrState}
use Rattle.pr_core.specs.Keepers.{KeeperState}
use Rattle.volume_core.specs.declared.changes.Change.{Change}
use Rattle.volume_core.specs.declared.media.MediumError.{MediumError}
use Rattle.volume_core.specs.declared.media.MediumError.TheVariants as Errors
use Rattle.volume_core.specs.Medium.{MediumState, met_fault}
use Rattle.volume_core.specs.Stores.{stores_nowhere}
use Rattle.positioning.specs.declared.positions.Pos.{Pos}
use Rattle.drive_commands.specs.declared.bays.Bay.{Bay}
use Rattle.drive_commands.specs.declared.bays.Bay.TheVariants.{Empty, Unloaded, Loaded}
use Rattle.drive_commands.specs.declared.faults.Fault.{Fault}
use Rattle.drive_commands.specs.declared.faults.Fault.TheVariants.{Writing}
use Rattle.drive_commands.specs.State.{Machine, DriveState, bay_of, machine_of, medium_in, mounted, start}
use Rattle.drive_commands.specs.Relations.{Made, made_nothing}
use Rattle.drive_commands.specs.Load.{wake_answer}
use Rattle.drive_commands.specs.LoadUnload.{LoadsAgain, LoadsIn, UnloadsInto, unloaded}
use Rattle.drive_commands.specs.Execute.{AdvancesIn, HonestIn, OpensAlone, StoresIn, Takes, is_device_fault, is_keeper_fault}
use Rattle.drive_commands.specs.Media.{ParksFrom}
use Rattle.drive_commands.specs.StoredFirst.{GoesTo, StoredFirst}
use Rattle.drive_commands.specs.Inner.Carries.{Carries}
use Rattle.drive_commands.specs.Inner.Opening.{WakesTo}
use Rattle.drive_commands.proofs.FaultLemmas.{faultless_start}
use Rattle.drive_commands.proofs.TakesLemmas.{carried_takes}

-- which device failed where a medium could not be opened
wake_fault : (error : MediumError) → met_fault (Err error) ≡ is_device_fault (wake_answer error)
wake_fault Errors.NoMemory = refl
wake_fault Errors.SideFull = refl
wake_fault Errors.Device = refl
wake_fault Errors.Failed = refl
wake_fault Errors.Unreadable = refl
wake_fault (Errors.Refused cause) = refl

wake_sound : (error : MediumError) → is_keeper_fault (wake_answer error) ≡ false
wake_sound Errors.NoMemory = refl
wake_sound Errors.SideFull = refl
wake_sound Errors.Device = refl
wake_sound Errors.Failed = refl
wake_sound Errors.Unreadable = refl
wake_sound (Errors.Refused cause) = refl

module _ {M K : Type 0}
    (state : M → MediumState) (below : Below M Change) (kept : K → KeeperState) (keeps : Below K PrState) where
  -- what an UNLOAD, or a LOAD, of a drive owes
  abbrev Unloads : DriveState M K → Result Reply Fault → DriveState M K → Type 0
  Unloads old answer new =
      Takes state below kept keeps
      (UnloadsInto unloaded (HonestIn below (medium_in old.bay)) (bay_of state old.bay) (machine_of state kept old))
      old answer new

  abbrev Loads : ℕ → DriveState M K → Result Reply Fault → DriveState M K → Type 0
  Loads nexus old answer new =
      Takes state below kept keeps
      (LoadsIn (HonestIn below (medium_in old.bay)) (bay_of state old.bay) nexus (machine_of state kept old))
      old answer new

  -- the machine of a drive with this in its bay
  bay_machine : (old : DriveState M K) (slot left : Bay M) → slot ≡ left
      → machine_of state kept (record old { bay = slot }) ≡ record (machine_of state kept old) {
        bay = bay_of state
            left;
      }
  bay_machine old slot left e = ap (λ (b : Bay M). record (machine_of state kept old) { bay = bay_of state b }) e

  module _ (nowhere : (m : M) → Advances below m [] false m) (keeps_nowhere : (k : K) → Advances keeps k [] false k)
      (old now : DriveState M K) (same : old ≡ now) where
    -- a command that makes no changes takes its step, where it leaves this in the bay
    bay_takes : (new : DriveState M K) (answer : Result Reply Fault) (bay left : Bay M) → old.bay ≡ bay
        → new.bay ≡ left → new.keeper ≡ old.keeper → new.accepted ≡ old.accepted → is_keeper_fault answer ≡ false
        → AdvancesIn below (medium_in bay) [] (is_device_fault answer) (medium_in left) → StoresIn state bay [] left
        → OpensAlone below bay (medium_in left)
        → (S : Result Reply Fault → Made → Machine → Type 0) → S answer made_nothing (machine_of state kept new)
        → Takes state below kept keeps S old answer new
    bay_takes new answer bay left is left_is keeper accepted sound advances stores alone S step =
        record {
          made = made_nothing;
          step = step;
          advances = rw (is, left_is) advances;
          stores = rw (is, left_is) stores;
          alone = rw (is, left_is) alone;
          saves = rw (keeper, sound) (keeps_nowhere old.keeper);
          counted = accepted;
        }

    unload_takes : (new : DriveState M K) (answer : Result Reply Fault) (bay left : Bay M) → old.bay ≡ bay
        → new.bay ≡ left → new.keeper ≡ old.keeper → new.accepted ≡ old.accepted → is_keeper_fault answer ≡ false
        → AdvancesIn below (medium_in bay) [] (is_device_fault answer) (medium_in left) → StoresIn state bay [] left
        → OpensAlone below bay (medium_in left)
        → UnloadsInto unloaded (HonestIn below (medium_in bay)) (bay_of state bay) (machine_of state kept old) answer
        made_nothing (machine_of state kept new) → Unloads now answer new
    unload_takes new answer bay left is left_is keeper accepted sound advances stores alone step =
        subst (λ (d : DriveState M K). Unloads d answer new) same
        (bay_takes new answer bay left is left_is keeper accepted sound advances stores alone
        (UnloadsInto unloaded (HonestIn below (medium_in old.bay)) (bay_of state old.bay) (machine_of state kept old))
        (subst
        (λ (b : Bay M).
        UnloadsInto unloaded (HonestIn below (medium_in b)) (bay_of state b) (machine_of state kept old) answer
        made_nothing (machine_of state kept new)) (sym is) step))

    load_takes : (nexus : ℕ) (new : DriveState M K) (answer : Result Reply Fault) (bay left : Bay M) → old.bay ≡ bay
        → new.bay ≡ left → new.keeper ≡ old.keeper → new.accepted ≡ old.accepted → is_keeper_fault answer ≡ false
        → AdvancesIn below (medium_in bay) [] (is_device_fault answer) (medium_in left) → StoresIn state bay [] left
        → OpensAlone below bay (medium_in left)
        → LoadsIn (HonestIn below (medium_in bay)) (bay_of state bay) nexus (machine_of state kept old) answer
        made_nothing (machine_of state kept new) → Loads nexus now answer new
    load_takes nexus new answer bay left is left_is keeper accepted sound advances stores alone step =
        subst (λ (d : DriveState M K). Loads nexus d answer new) same
        (bay_takes new answer bay left is left_is keeper accepted sound advances stores alone
        (LoadsIn (HonestIn below (medium_in old.bay)) (bay_of state old.bay) nexus (machine_of state kept old))
        (subst
        (λ (b : Bay M).
        LoadsIn (HonestIn below (medium_in b)) (bay_of state b) nexus (machine_of state kept old) answer
        made_nothing (machine_of state kept new)) (sym is) step))

    -- the machine stays where the bay does
    stays : (slot bay : Bay M) → old.bay ≡ bay → slot ≡ bay
        → machine_of state kept (record old { bay = slot }) ≡ machine_of state kept old
    stays slot bay is e =
        ap (λ (b : Bay M). record (machine_of state kept old) { bay = bay_of state b }) (rw is e)

    -- UNLOAD of an empty drive, of a medium that is not loaded, of one that is, and of one whose device fails
    pub unload_none : (slot : Bay M) → old.bay ≡ Empty → slot ≡ Empty
        → Unloads now (Ok (check_with medium_not_present [])) (record old { bay = slot })
    unload_none slot is e =
        unload_takes (record old { bay = slot }) (Ok (check_with medium_not_present [])) Empty Empty is e refl refl
        refl (refl, refl) tt tt (refl, refl, stays slot Empty is e)

    pub unload_still : (given : M) (slot : Bay M) → old.bay ≡ Unloaded given → slot ≡ Unloaded given
        → Unloads now (Ok (good_with [])) (record old { bay = slot })
    unload_still given slot is e =
        unload_takes (record old { bay = slot }) (Ok (good_with [])) (Unloaded given) (Unloaded given) is e refl refl
        refl (nowhere given) tt (inl refl) (refl, refl, bay_machine old slot (Unloaded given) e)

    pub unload_parked : (given parked : M) (slot : Bay M) → old.bay ≡ Loaded given → slot ≡ Unloaded parked
        → ParksFrom state below given (Ok parked) → Unloads now (Ok (good_with [])) (record old { bay = slot })
    unload_parked given parked slot is e h =
        unload_takes (record old { bay = slot }) (Ok (good_with [])) (Loaded given) (Unloaded parked) is e refl refl
        refl h.1 tt tt (Ok tt, state parked, h.0, (refl, bay_machine old slot (Unloaded parked) e), refl)

    pub unload_broken : (given broken : M) (slot : Bay M) → old.bay ≡ Loaded given → slot ≡ Loaded broken
        → ParksFrom state below given (Err broken) → Unloads now (Err Writing) (record old { bay = slot })
    unload_broken given broken slot is e h =
        unload_takes (record old { bay = slot }) (Err Writing) (Loaded given) (Loaded broken) is e refl refl refl h.2
        h.1 tt (Err Errors.Device, state broken, h.0, (refl, bay_machine old slot (Loaded broken) e), refl)

    -- LOAD of an empty drive, of a medium that has failed, and of one that is not loaded
    module _ (nexus : ℕ) where
      pub load_none : (slot : Bay M) → old.bay ≡ Empty → slot ≡ Empty
          → Loads nexus now (Ok (check_with medium_not_present [])) (record old { bay = slot })
      load_none slot is e =
          load_takes nexus (record old { bay = slot }) (Ok (check_with medium_not_present [])) Empty Empty is e refl
          refl refl (refl, refl) tt tt (refl, refl, stays slot Empty is e)

      pub load_failed : (given : M) (slot : Bay M) → old.bay ≡ Loaded given → slot ≡ Loaded given
          → (state given).failed ≡ true → Loads nexus now (Ok (check_with medium_failed [])) (record old { bay = slot })
      load_failed given slot is e failed =
          load_takes nexus (record old { bay = slot }) (Ok (check_with medium_failed [])) (Loaded given) (Loaded
          given) is
          e refl refl refl (nowhere given) (stores_nowhere (state given)) tt
          (rw failed (refl, refl, stays slot (Loaded given) is e))

      pub load_opened : (given opened : M) (slot : Bay M) (position : Pos) (attentions : List AttentionSet)
          → old.bay ≡ Unloaded given → slot ≡ Loaded opened → position ≡ start
          → attentions ≡ established_for_others old.attentions nexus MediumChanged
          → WakesTo state below given (Ok opened)
          → Loads nexus now (Ok (good_with []))
          (record old { bay = slot; position = position; attentions = attentions })
      load_opened given opened slot position attentions is e at told h =
          load_takes nexus (record old { bay = slot; position = position; attentions = attentions })
          (Ok (good_with [])) (Unloaded given) (Loaded opened) is e refl refl refl h.0.advances tt (inr h.0.alone) (
            Ok tt,
            state opened,
            h.0.answer,
            (
              refl,
              λ i. record (machine_of state kept old) {
                bay = bay_of state (e i);
                position = at i;
                attentions = told i;
              },
            ),
            refl,
          )

      pub load_refused : (given parked : M) (error : MediumError) (slot : Bay M) → old.bay ≡ Unloaded given
          → slot ≡ Unloaded parked → WakesTo state below given (Err (parked, error))
          → Loads nexus now (wake_answer error) (record old { bay = slot })
      load_refused given parked error slot is e h =
          load_takes nexus (record old { bay = slot }) (wake_answer error) (Unloaded given) (Unloaded parked) is e refl
          refl (wake_sound error) (rw (sym (wake_fault error)) h.0.advances) tt (inr h.0.alone)
          (Err error, state parked, h.0.answer, (refl, bay_machine old slot (Unloaded parked) e), refl)

      -- and of one that works: what is pending is stored, and the position is the start
      pub load_again : (given left : M) (position : Pos) (answer : Result Reply Fault) → old.bay ≡ Loaded given
          → (state given).failed ≡ false
          → Carries state below (StoredFirst (GoesTo (λ m. start))) given old.position answer [] left position
          → Loads nexus now answer (record old { bay = Loaded left; position = position })
      load_again given left position answer is works carries =
          let sound =
          faultless_start (mounted (state given) old.position) answer [] (mounted (state left) position)
          carries.work in
          subst
          (λ (d : DriveState M K). Loads nexus d answer (record old { bay = Loaded left; position = position }))
          same
          (carried_takes state below kept keeps nowhere keeps_nowhere (StoredFirst (GoesTo (λ m. start)))
          (LoadsIn (HonestIn below (medium_in old.bay)) (bay_of state old.bay) nexus (machine_of state kept old)) old
          given left position old.accepted answer is sound (record { made = []; carries = carries; counted = refl })
          (λ made h. subst
          (λ (b : Bay M).
          LoadsIn (HonestIn below (medium_in b)) (bay_of state b) nexus (machine_of state kept old) answer made
          (machine_of state kept (record old { bay = Loaded left; position = position })))
          (sym is)
          (subst
          (λ (b : Bool).
          LoadsAgain b (state given) (machine_of state kept old) answer made
          (machine_of state kept (record old { bay = Loaded left; position = position })))
          (sym works) h)))
