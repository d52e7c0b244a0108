-- How changes go from the ring into what is pending of a medium.
use Rattle.std.specs.Prelude.{◌≡◌, ◌++◌, List, map, false}
use Rattle.vtl_base.specs.Below.{Advances}
use Rattle.tape_disk.specs.Disk.{DiskState}
use Rattle.volume_core.specs.declared.changes.Change.{Change}
use Rattle.tape_buffer.specs.Moves.{MovesUnreported, buffer_below, with_changes}
use Rattle.tape_buffer.specs.State.{state_of}
use Rattle.tape_buffer.specs.Taking.{DisksState}
use Rattle.split_bay.specs.declared.items.Item.TheVariants.{Sent}
use Rattle.split_bay.specs.Rings.{ReceivingState}
use Rattle.split_bay.specs.Spans.{NoChangeFirst}

module _ {D : Type 0} (state : D → DiskState) where
  -- some changes that were known to wait are received, and pending (own)
  pub record TakesWaiting (old : ReceivingState) (medium : DisksState D) (new : ReceivingState) (medium' : DisksState D)
      : Type 0 where
    pub found : List Change
    pub number : new.number ≡ old.number
    pub received : new.received ≡ old.received ++ map Sent found
    pub waiting : old.waiting ≡ map Sent found ++ new.waiting
    pub pending : medium'.buffer ≡ with_changes medium.buffer found
    pub advances :
        (state_of state medium.buffer).failed ≡ false
        → Advances (buffer_below state) medium.buffer found false medium'.buffer
    pub accepts : MovesUnreported state medium.buffer found medium'.buffer

  -- all that were known to wait, up to where the next span begins (own)
  pub record TakesKnown (old : ReceivingState) (medium : DisksState D) (new : ReceivingState) (medium' : DisksState D)
      : Type 0 where
    pub takes : TakesWaiting old medium new medium'
    pub all : NoChangeFirst new.waiting
