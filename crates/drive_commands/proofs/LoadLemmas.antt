-- Loading and powering on are steps of the machine.
use Rattle.std.proofs.Common.{◌≡◌, ◌∙◌, [], Option, None, Some, option_map, Result, Ok, Err, IfOk, refl, ap, subst, sym}
use Rattle.vtl_base.specs.Below.{Below}
use Rattle.vtl_base.specs.declared.faults.NoMemory.{NoMemory}
use Rattle.scsi_sense.specs.declared.replies.Reply.{Reply}
use Rattle.scsi_sense.specs.Replies.{check_with, good_with}
use Rattle.scsi_sense.specs.Senses.{medium_not_present}
use Rattle.pr_core.specs.declared.states.PrState.{PrState}
use Rattle.pr_core.specs.Keepers.{KeeperState}
use Rattle.volume_core.specs.declared.changes.Change.{Change}
use Rattle.volume_core.specs.declared.media.MediumError.{MediumError}
use Rattle.volume_core.specs.declared.media.MediumError.TheVariants as Errors
use Rattle.volume_core.specs.Medium.{MediumState}
use Rattle.drive_commands.specs.declared.bays.Bay.{Bay}
use Rattle.drive_commands.specs.declared.bays.Bay.TheVariants.{Empty, Unloaded, Loaded}
use Rattle.drive_commands.specs.declared.faults.Fault.{Fault}
use Rattle.drive_commands.specs.declared.faults.Fault.TheVariants.{Writing}
use Rattle.drive_commands.specs.State.{DriveState, machine_of, bay_of, left_of, medium_in, powered_on}
use Rattle.drive_commands.specs.Relations.{made_nothing}
use Rattle.drive_commands.specs.LoadUnload.{TakesOut, UnloadsInto, emptied}
use Rattle.drive_commands.specs.Execute.{HonestIn}
use Rattle.drive_commands.specs.Load.{Loads, LoadsInto, LoadsAs, wake_answer, bay_when_on, power_on_outcome}
use Rattle.drive_commands.specs.Media.{TakesIn, LoadSteps, GoesOut, GoesOutOf, UnloadSteps, SwitchesOn, PowerOnSteps, WakesAs}

module _ {M K : Type 0} (state : M → MediumState) (below : Below M Change) (kept : K → KeeperState) where
  -- an empty drive loads as its machine does
  loads_at : (old new : DriveState M K) (given opened : M) (woke : Result Unit MediumError)
      (answer : Result Reply Fault)
      → old.bay ≡ Empty → WakesAs state below given woke opened
      → LoadsAs woke (state opened) (machine_of state kept old) answer (machine_of state kept new)
      → Loads (below.honest given) (state given) (machine_of state kept old) answer made_nothing (machine_of state
      kept new)
  loads_at old new given opened woke answer empty wakes fits =
      subst
      (λ (bay : Bay M).
      LoadsInto (below.honest given) (bay_of state bay) (state given) (machine_of state kept old) answer made_nothing
      (machine_of state kept new))
      (sym empty) (woke, state opened, wakes.answer, fits, refl)

  -- what a loading does is a step of the machine
  pub load_steps : (old : DriveState M K) (given : M) (result : Result Unit (M × Reply)) (new : DriveState M K)
      → old.bay ≡ Empty → TakesIn state below old given result new → LoadSteps state below kept old given result new
  load_steps old given (Ok done) new empty h =
      record {
        answer = Ok (good_with []);
        replied = refl;
        step =
            loads_at old new given h.0 (Ok tt) (Ok (good_with [])) empty h.1
            (refl, ap (machine_of state kept) h.2);
      }
  load_steps old given (Err back) new empty h =
      record {
        answer = wake_answer h.0;
        replied = h.2;
        step =
            loads_at old new given back.0 (Err h.0) (wake_answer h.0) empty h.1
            (refl, ap (machine_of state kept) h.3);
      }

  -- what is in a drive goes out of it as of its machine
  goes_out_at : (bay : Bay M) (old new : DriveState M K) (answer : Result Reply Fault) → old.bay ≡ bay
      → UnloadsInto emptied (HonestIn below (medium_in bay)) (bay_of state bay) (machine_of state kept old) answer
      made_nothing (machine_of state kept new)
      → TakesOut (HonestIn below (medium_in old.bay)) (machine_of state kept old) answer made_nothing
      (machine_of state kept new)
  goes_out_at bay old new answer is h =
      subst
      (λ (b : Bay M).
      UnloadsInto emptied (HonestIn below (medium_in b)) (bay_of state b) (machine_of state kept old) answer
      made_nothing (machine_of state kept new))
      (sym is) h

  -- what an unloading does is a step of the machine
  unload_steps_of : (bay : Bay M) (old : DriveState M K) (result : Result M Reply) (new : DriveState M K)
      → old.bay ≡ bay → GoesOutOf state below bay old result new → UnloadSteps state below kept old result new
  unload_steps_of Empty old (Ok out) new is h = absurd h
  unload_steps_of Empty old (Err reply) new is h =
      record {
        answer = Ok (check_with medium_not_present []);
        replied = h.0;
        step = goes_out_at Empty old new _ is (refl, refl, ap (machine_of state kept) h.1);
      }
  unload_steps_of (Unloaded given) old (Ok out) new is h =
      record {
        answer = Ok (good_with []);
        replied = refl;
        step = goes_out_at (Unloaded given) old new _ is (refl, refl, ap (machine_of state kept) h.1);
      }
  unload_steps_of (Unloaded given) old (Err reply) new is h = absurd h
  unload_steps_of (Loaded given) old (Ok out) new is h =
      record {
        answer = Ok (good_with []);
        replied = refl;
        step =
            goes_out_at (Loaded given) old new _ is
            (Ok tt, state out, h.0.0, (refl, ap (machine_of state kept) h.1), refl);
      }
  unload_steps_of (Loaded given) old (Err reply) new is h =
      record {
        answer = Err Writing;
        replied = h.2;
        step =
            goes_out_at (Loaded given) old new _ is
            (Err Errors.Device, state h.0, h.1.0, (refl, ap (machine_of state kept) h.3), refl);
      }

  pub unload_steps : (old : DriveState M K) (result : Result M Reply) (new : DriveState M K)
      → GoesOut state below old result new → UnloadSteps state below kept old result new
  unload_steps old result new h = unload_steps_of old.bay old result new refl h

  -- where a medium stands once the power is on, its state stands in the machine
  bay_when_mapped : (woke : Result Unit MediumError) (opened : M)
      → bay_when_on woke (state opened) ≡ option_map (bay_of state) (bay_when_on woke opened)
  bay_when_mapped (Ok done) opened = refl
  bay_when_mapped (Err (Errors.Refused cause)) opened = refl
  bay_when_mapped (Err Errors.NoMemory) opened = refl
  bay_when_mapped (Err Errors.SideFull) opened = refl
  bay_when_mapped (Err Errors.Device) opened = refl
  bay_when_mapped (Err Errors.Failed) opened = refl
  bay_when_mapped (Err Errors.Unreadable) opened = refl

  -- a drive that was switched on with what a loss of power left is a machine that was
  switched_machine : (bay : Bay M) (reservations : PrState) (keeper : K) (new : DriveState M K)
      → reservations ≡ left_of (kept keeper).saved → new ≡ powered_on bay reservations keeper
      → machine_of state kept new ≡ powered_on (bay_of state bay) (left_of (kept keeper).saved) (kept keeper)
  switched_machine bay reservations keeper new left is =
      ap (machine_of state kept) is
      ∙ ap (λ (r : PrState). powered_on (bay_of state bay) r (kept keeper)) left

  -- what a power on does is a step of the machine
  pub power_on_steps : (given : Option M) (reservations : PrState) (keeper : K) (new : DriveState M K)
      → reservations ≡ left_of (kept keeper).saved → SwitchesOn state below given reservations keeper (Ok new)
      → PowerOnSteps state below kept given keeper new
  power_on_steps None reservations keeper new left h =
      record { outcome = Ok tt; step = λ old. (refl, refl, switched_machine Empty reservations keeper new left h) }
  power_on_steps (Some given) reservations keeper new left h =
      let (woke, opened, bay, wakes, stands, is) = h in
      record {
        outcome = power_on_outcome woke;
        step = λ old. (
          woke,
          state opened,
          bay_of state bay,
          wakes.answer,
          bay_when_mapped woke opened ∙ ap (option_map (bay_of state)) stands,
          refl,
          refl,
          switched_machine bay reservations keeper new left is,
        );
      }

  -- the same of whatever came of it
  pub power_on_where : (given : Option M) (reservations : PrState) (keeper : K)
      (result : Result (DriveState M K) (Option M × K × NoMemory))
      → reservations ≡ left_of (kept keeper).saved → SwitchesOn state below given reservations keeper result
      → IfOk result (λ new. PowerOnSteps state below kept given keeper new)
  power_on_where given reservations keeper (Ok new) left h = power_on_steps given reservations keeper new left h
  power_on_where given reservations keeper (Err back) left h = tt
