-- What a move does with a drive that stands in two halves.
use Rattle.std.proofs.Common.{◌≡◌, List, [], Bool, true, false, Option, None, Some, Result, Ok, Err, refl, sym, ◌∙◌, ap, subst}
use Rattle.tape_disk.specs.Disk.{DiskState}
use Rattle.scsi_sense.specs.declared.replies.Reply.{Reply}
use Rattle.drive_commands.specs.declared.bays.Bay.{Bay}
use Rattle.drive_commands.specs.declared.bays.Bay.TheVariants.{Empty, Unloaded, Loaded}
use Rattle.drive_commands.specs.Execute.{AdvancesIn}
use Rattle.drive_commands.specs.Media.{GoesOut, GoesOutOf, TakesIn}
use Rattle.drive_commands.specs.State.{medium_in}
use Rattle.tape_buffer.specs.Moves.{buffer_below}
use Rattle.tape_buffer.specs.State.{BufferState, state_of}
use Rattle.tape_buffer.specs.Taking.{DisksState}
use Rattle.bay_moves.specs.Elements.{BayState}
use Rattle.split_bay.specs.declared.items.Item.{Item}
use Rattle.split_bay.specs.Backs.{BackState, KeepsDiskHalf}
use Rattle.split_bay.specs.Both.{AttachesIn}
use Rattle.split_bay.specs.Fronts.{FrontState, KeepsHostsHalf}
use Rattle.split_bay.specs.Halves.{Joins, Parts}
use Rattle.split_bay.specs.Rings.{SendingState}
use Rattle.split_runs.specs.Moves.{IsInStep, IsOutStep, IsPutStep}
use Rattle.split_runs.specs.Places.{PartsInto}
use Rattle.split_runs.specs.Steps.{halves_of}
use Rattle.split_runs.proofs.StepLemmas.{parts_again}

module _ {D : Type 0} (state : D → DiskState) where
  -- from an empty drive nothing comes back
  empty_back : (sent received : List Item) (disks : Option (DisksState D)) (old new : Bay (BufferState D))
      → AttachesIn state sent received disks old new → old ≡ Empty → new ≡ Empty
  empty_back sent received disks Empty Empty attaches is = refl
  empty_back sent received disks Empty (Unloaded new) attaches is = absurd attaches
  empty_back sent received disks Empty (Loaded new) attaches is = absurd attaches
  empty_back sent received disks (Unloaded old) new attaches is = absurd (cc)
  empty_back sent received disks (Loaded old) new attaches is = absurd (cc)

  pub joined_empty : (front : FrontState D) (back : BackState D) (joined : BayState D) (ends : SendingState)
      → Joins state front back joined ends → front.drive.bay ≡ Empty → joined.bay ≡ Empty
  joined_empty front back joined ends joins is =
      empty_back front.sending.sent back.received back.medium front.drive.bay joined.bay joins.attaches is

  -- a cartridge that stays in its drive, since the device failed, goes on
  stays_in : (bay : Bay (BufferState D)) (old left : BayState D) (reply : Reply) → bay ≡ old.bay
      → GoesOutOf (state_of state) (buffer_below state) bay old (Err reply) left
      → (fault : Bool) × AdvancesIn (buffer_below state) (medium_in bay) [] fault (medium_in left.bay)
  stays_in Empty old left reply is goes = (
    false,
    subst (λ (b : Bay (BufferState D)). AdvancesIn (buffer_below state) None [] false (medium_in b))
        (is ∙ sym (ap (λ (d : BayState D). d.bay) goes.1)) (refl, refl),
  )
  stays_in (Unloaded given) old left reply is goes = absurd goes
  stays_in (Loaded given) old left reply is goes = (
    true,
    subst
        (λ (b : BayState D). AdvancesIn (buffer_below state) (Some given) [] true (medium_in b.bay)) (sym goes.3)
        goes.1.2,
  )

  module _ (front : FrontState D) (back : BackState D) (joined left : BayState D) (ends : SendingState)
      (front' : FrontState D) (back' : BackState D) (joins : Joins state front back joined ends)
      (parts : Parts state left ends front' back') (keeps : KeepsHostsHalf state front')
      (keeps' : KeepsDiskHalf state back') where
    into : PartsInto state left ends (halves_of front' back' [])
    into = record { parts = parts; again = parts_again state front' back' keeps keeps' }

    joins_so :
        Joins state front back joined front.sending × PartsInto state left front.sending (halves_of front' back' [])
    joins_so =
        subst
        (λ (s : SendingState). Joins state front back joined s × PartsInto state left s (halves_of front' back' []))
        joins.ends_are (joins, into)

    pub out_step : (result : Result (BufferState D) Reply)
        → GoesOut (state_of state) (buffer_below state) joined result left
        → IsOutStep state front back result front' back'
    out_step (Ok out) goes =
        λ waiting. (record { joined = joined; ends = ends; joins = joins; left = left; goes = goes }, into)
    out_step (Err reply) goes =
        let on = stays_in joined.bay joined left reply refl goes in
        λ waiting. (
          record {
            joined = joined;
            ends = ends;
            joins = joins;
            used = left;
            fault = on.0;
            advances = on.1;
            parted = into;
          },
          goes,
        )

    pub in_step : (given : BufferState D) (result : Result Unit (BufferState D × Reply))
        → TakesIn (state_of state) (buffer_below state) joined given result left
        → IsInStep state front back given result front' back'
    in_step given (Ok done) takes =
        (record { empty = joined; bay = left; ends = ends; takes = takes; parted = into }, joins)
    in_step given (Err refused) takes =
        (record { empty = joined; reply = refused.1; bay = left; takes = takes }, refl, joins_so.0, joins_so.1)

    pub put_step : (given : BufferState D) → left ≡ record joined { bay = Unloaded given }
        → IsPutStep state front back given front' back'
    put_step given inserted =
        (record { empty = joined; bay = left; ends = ends; inserted = inserted; parted = into }, joins)
