-- What the halves of a drive do no more after a fault.
use Rattle.std.proofs.Common.{◌≡◌, [], ◌∷◌, Bool, true, false, not, Option, None, Some, refl, ◌∙◌, ap}
use Rattle.std.specs.Prelude.{◌&&◌}
use Rattle.tape_disk.specs.Disk.{DiskState, IsDisk}
use Rattle.volume_core.specs.declared.media.Turn.{Turn}
use Rattle.tape_buffer.specs.State.{state_of}
use Rattle.tape_buffer.specs.Taking.{DisksState}
use Rattle.split_bay.specs.Backs.{BackState, TurnsBack, is_stuck_in, works_in}
use Rattle.split_bay.specs.Halves.{ReportsBoth, is_unreported}
use Rattle.split_runs.specs.Calls.{Alone, Both, HalvesState, Roomed, Settled, Told, Turned, left_told}
use Rattle.split_runs.specs.Faults.{StuckHalvesRest, ToldHostsAcceptNothing, ToldOnceByHalves}
use Rattle.split_runs.proofs.AloneLemmas.{none_told}

-- a medium that is stuck does not work
stuck_idle : (awake failed : Bool) → awake && failed ≡ true → awake && not failed ≡ false
stuck_idle true true stuck = refl
stuck_idle true false stuck = absurd (cc)
stuck_idle false failed stuck = refl

-- nothing is left to tell where hosts see it
none_unreported : (b : Bool) → b && not true ≡ false
none_unreported true = refl
none_unreported false = refl

module _ {D : Type 0} (state : D → DiskState) where
  works_not : (medium : Option (DisksState D)) → is_stuck_in state medium ≡ true → works_in state medium ≡ false
  works_not None stuck = refl
  works_not (Some m) stuck = stuck_idle (state_of state m.buffer).awake (state_of state m.buffer).failed stuck

  -- a turn of a half that is stuck does nothing
  rests : (old new : BackState D) (turn : Turn) (b : Bool) → b ≡ false → TurnsBack state b old turn new → new ≡ old
  rests old new turn false works turns = turns.1
  rests old new turn true works turns = absurd (cc)

  pub stuck_rest : StuckHalvesRest state
  stuck_rest old new [] made stuck none run = ap (λ (h : HalvesState D). h.back) run.0
  stuck_rest old new (Alone request result left ∷ calls) made stuck none run =
      let same = run.3.back in
      stuck_rest run.0 new calls run.2 (ap (λ (b : BackState D). is_stuck_in state b.medium) same ∙ stuck) none run.4
      ∙ same
  stuck_rest old new (Turned turn ∷ calls) made stuck none run =
      let same =
      rests old.back run.0.back turn (works_in state old.back.medium) (works_not old.back.medium stuck)
      run.3.turns in
      stuck_rest run.0 new calls run.2 (ap (λ (b : BackState D). is_stuck_in state b.medium) same ∙ stuck) none run.4
      ∙ same
  stuck_rest old new (Both request reply left ∷ calls) made stuck none run = absurd none
  stuck_rest old new (Settled turn ∷ calls) made stuck none run = absurd none
  stuck_rest old new (Roomed ∷ calls) made stuck none run = absurd none
  stuck_rest old new (Told ∷ calls) made stuck none run = absurd none

  -- once a fault was told, none is unreported
  told_then : (old mid : HalvesState D) (b : Bool) → is_unreported state old.front old.back ≡ b
      → ReportsBoth state b old.front old.back mid.front mid.back → is_unreported state mid.front mid.back ≡ false
  told_then old mid false is reports = (λ i. is_unreported state (reports.0 i) (reports.1 i)) ∙ is
  told_then old mid true is reports =
      (λ i. is_stuck_in state mid.back.medium && not (reports.failed i))
      ∙ none_unreported (is_stuck_in state mid.back.medium)

  nothing_told : (mid new : HalvesState D) (b : Bool) → b ≡ false
      → ReportsBoth state b mid.front mid.back new.front new.back → new.waiting ≡ left_told state b mid.waiting
      → new ≡ mid
  nothing_told mid new false none reports waiting =
      λ i. record { front = reports.0 i; back = reports.1 i; waiting = waiting i }
  nothing_told mid new true none reports waiting = absurd (cc)

  pub told_once : ToldOnceByHalves state
  told_once old mid new made made' one two =
      nothing_told mid new (is_unreported state mid.front mid.back)
      (told_then old mid (is_unreported state old.front old.back) refl one.reports) two.reports two.waiting

module _ {D : Type 0} (state : D → DiskState) (is_disk : (disk : D) → (state disk).honest → IsDisk (state disk)) where
  pub told_none : ToldHostsAcceptNothing state
  told_none old new request result left made keeps told step =
      none_told state is_disk old new request result left made keeps step told
