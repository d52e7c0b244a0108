-- A keeper for tests, as a contract sees it.
use Rattle.std.specs.Prelude.{◌≡◌, ◌≤◌, ◌-◌, ◌==◌, ◌++◌, ℕ, Option, None, Some, Result, Ok, Err, List, [], ◌∷◌, Bool, true, false, nat_lt, if◌then◌else◌, refl}
use Rattle.std.proofs.Common.{◌∙◌, ap, sym, arith}
use Rattle.std.proofs.lemmas.Bool.{true≢false}
use Rattle.vtl_base.specs.Below.{Below}
use Rattle.pr_core.specs.declared.states.PrState.{PrState}
use Rattle.pr_core.specs.declared.keepers.KeeperError.{KeeperError}
use Rattle.pr_core.specs.declared.keepers.KeeperError.TheVariants.{NoMemory, SideFull, Device, Failed}
use Rattle.test_media.specs.declared.keepers.SaveFault.{SaveFault}
use Rattle.test_media.specs.declared.keepers.SaveFault.TheVariants as fault
use Rattle.test_media.specs.declared.keepers.SavePlan.{SavePlan}
use Rattle.pr_core.specs.Keepers.{KeeperState, last_saved, state_frame_size}

-- what a keeper for tests has saved, and how it fails (own)
pub record StagedKept : Type 0 where
  -- the state that was saved last
  pub saved : PrState
  -- the state whose save was in flight when the device failed
  pub torn : Option PrState
  pub failed : Bool
  -- the bytes that may still be added
  pub room : ℕ
  -- the save that will fail
  pub plan : Option SavePlan

-- the same as the state of a keeper (own)
abbrev pub staged_kept : StagedKept → KeeperState
staged_kept keeper =
    record { saved = Some keeper.saved; torn = keeper.torn; failed = keeper.failed; room = Some keeper.room }

-- how the present save fails, if the plan chose it (own)
abbrev pub planned_now : Option SavePlan → Option SaveFault
planned_now None = None
planned_now (Some plan) = if plan.after == 0 then Some plan.by else None

-- the plan after one more save: one fewer comes before it, and a plan that was carried out is removed (own)
abbrev pub planned_next : Option SavePlan → Option SavePlan
planned_next None = None
planned_next (Some plan) = if plan.after == 0 then None else Some (record plan { after = plan.after - 1 })

-- the result of a save with this fault, or with none (own)
abbrev pub fault_answer : Option SaveFault → Result Unit KeeperError
fault_answer None = Ok tt
fault_answer (Some fault.NoMemory) = Err NoMemory
fault_answer (Some fault.Device) = Err Device

-- the result of saving a state: a failed keeper and a full store come first (own)
abbrev pub staged_answer : StagedKept → PrState → Result Unit KeeperError
staged_answer keeper state =
    if keeper.failed then Err Failed
    else (if nat_lt keeper.room (state_frame_size state) then Err SideFull
    else fault_answer (planned_now keeper.plan))

-- the keeper after saving a state with this result; the plan moves by one whatever the result is (own)
abbrev pub staged_after : Result Unit KeeperError → StagedKept → PrState → StagedKept
staged_after (Ok done) keeper state =
    record keeper {
      saved = state;
      torn = None;
      room = keeper.room - state_frame_size state;
      plan = planned_next keeper.plan;
    }
staged_after (Err Device) keeper state =
    record keeper { torn = Some state; failed = true; plan = planned_next keeper.plan }
staged_after (Err _) keeper state = record keeper { plan = planned_next keeper.plan }

-- how many failures its device has had: one, where it has failed (own)
abbrev pub staged_faults : StagedKept → ℕ
staged_faults keeper = if keeper.failed then 1 else 0

-- Failures stay. Where the device has not failed, the saved state is the last of these (own).
pub record StagedSaves (old : StagedKept) (made : List PrState) (new : StagedKept) : Type 0 where
  pub counted : staged_faults old ≤ staged_faults new
  pub last :
      old.failed ≡ false → new.failed ≡ false → new.saved ≡ last_saved old.saved made

-- its device's failure is counted, its device is honest, and it moves as `StagedSaves` says (own)
abbrev pub staged_keeper_below : Below StagedKept PrState
staged_keeper_below =
    record {
      failures = staged_faults;
      honest = λ keeper. Unit {0};
      at_hand = λ keeper. Unit {0};
      moves = StagedSaves;
      left_alone = λ old new. Unit {0};
    }

-- where nothing is done, nothing is saved
pub staged_saves_nowhere : (keeper : StagedKept) → StagedSaves keeper [] keeper
staged_saves_nowhere keeper = record { counted = omega arith; last = λ works still. refl }

-- the last of two lists, one after the other
last_of_both : (state : PrState) (first second : List PrState)
    → last_saved state (first ++ second) ≡ last_saved (last_saved state first) second
last_of_both state [] second = refl
last_of_both state (next ∷ later) second = last_of_both next later second

-- a keeper that has not failed now had not failed before
unfailed : (before now : Bool) → (if before then 1 else 0) ≤ (if now then 1 else 0) → now ≡ false → before ≡ false
unfailed false now fewer works = refl
unfailed true false fewer works = absurd (omega arith)
unfailed true true fewer works = absurd (true≢false works)

-- two runs, one after the other, append what they save
pub staged_saves_on : (a b c : StagedKept) (first second : List PrState)
    → StagedSaves a first b → StagedSaves b second c → StagedSaves a (first ++ second) c
staged_saves_on a b c first second one two =
    record {
      counted = omega (arith, one.counted, two.counted);
      last = λ works still.
          let between : b.failed ≡ false = unfailed b.failed c.failed two.counted still in
          two.last between still
          ∙ ap (λ (state : PrState). last_saved state second) (one.last works between)
          ∙ sym (last_of_both a.saved first second);
    }
