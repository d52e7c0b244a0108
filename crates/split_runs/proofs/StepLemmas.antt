-- That each call of halves is a step of a list of calls.
use Rattle.std.proofs.Common.{ℕ, List, [], ◌∷◌, Option, None, Some, Result, Ok, Err, inl, inr, refl}
use Rattle.tape_disk.specs.Disk.{DiskState}
use Rattle.scsi_sense.specs.declared.replies.Reply.{Reply}
use Rattle.volume_core.specs.declared.media.MediumError.{MediumError}
use Rattle.drive_commands.specs.Work.{Request}
use Rattle.split_bay.specs.Backs.{BackState, KeepsDiskHalf}
use Rattle.split_bay.specs.Fronts.{AnswersOrWaits, FrontState, KeepsHostsHalf}
use Rattle.split_bay.specs.Halves.{MakesRoom}
use Rattle.split_runs.specs.Calls.{PartsAgain, Roomed, Settled}
use Rattle.split_runs.specs.Steps.{IsAloneStep, IsRoomStep, halves_of}

module _ {D : Type 0} (state : D → DiskState) where
  pub alone_step : (old new : FrontState D) (request : Request) (result : Option Reply) (left : List ℕ)
      → AnswersOrWaits state old request result new left → KeepsHostsHalf state new
      → IsAloneStep state old request result left new
  alone_step old new request None left answers keeps back waiting = (
    [],
    record { answers = (answers, refl); back = refl; waiting = refl; keeps = keeps },
  )
  alone_step old new request (Some reply) left answers keeps back waiting = (
    answers.step.1.step.taken.made.changes,
    record { answers = (answers, refl); back = refl; waiting = refl; keeps = keeps },
  )

  -- both halves were held: nothing waits
  pub parts_again : (front : FrontState D) (back : BackState D) → KeepsHostsHalf state front
      → KeepsDiskHalf state back → PartsAgain state (halves_of front back [])
  parts_again front back keeps keeps' = record { waiting = refl; front = keeps; back = keeps' }

  -- both halves made room, or lacked it, and took a turn
  pub room_step : (front : FrontState D) (back : BackState D) (result : Result Unit MediumError)
      (front' : FrontState D) (back' : BackState D) → MakesRoom state front back result front' back'
      → KeepsHostsHalf state front' → KeepsDiskHalf state back' → IsRoomStep state front back front' back'
  room_step front back (Ok done) front' back' made keeps keeps' waiting = (
    Roomed ∷ [],
    inl refl,
    (
      halves_of front' back' [],
      [],
      [],
      record { joined = made.0; holds = made.1; made_is = refl; parts = parts_again front' back' keeps keeps' },
      (refl, refl),
      refl,
    ),
  )
  room_step front back (Err error) front' back' lacks keeps keeps' waiting =
      let held = lacks.settles.holds in (
        Roomed ∷ Settled lacks.turn ∷ [],
        inr (lacks.turn, refl),
        (
          halves_of lacks.between lacks.between' [],
          [],
          [],
          record {
            joined = lacks.joined;
            holds = lacks.holds;
            made_is = refl;
            parts = parts_again lacks.between lacks.between' held.front_keeps held.back_keeps;
          },
          (
            halves_of front' back' [],
            [],
            [],
            record { settles = lacks.settles; made_is = refl; parts = parts_again front' back' keeps keeps' },
            (refl, refl),
            refl,
          ),
          refl,
        ),
      )
