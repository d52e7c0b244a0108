-- What holds of a buffered medium between calls.
use Rattle.std.specs.Prelude.{List, Option}
use Rattle.object_index.specs.Places.{PlacedPart}
use Rattle.volume_core.specs.declared.changes.Change.{Change}
use Rattle.cartridge.specs.State.{ClosedCartridge, OpenCartridge}
use Rattle.tape_buffer.specs.Aways.{KnowsAway}
use Rattle.tape_buffer.specs.Limits.{FitsBuffer}
use Rattle.tape_buffer.specs.declared.holding.Holding.{Holding}
use Rattle.tape_buffer.specs.declared.holding.Holding.TheVariants.{Open, Closed, Away}
use Rattle.tape_buffer.specs.State.{BufferState, IsPendingOver, closed_buffer, open_buffer}

module _ {D : Type 0} where
  -- the medium by what it holds; nothing is pending over a closed cartridge, and while the disks are away what is seen
  -- (own)
  abbrev pub buffer_of : Holding (OpenCartridge D × List Change) (ClosedCartridge D) → BufferState D
  buffer_of (Open opened) = open_buffer opened.0 opened.1
  buffer_of (Closed cartridge) = closed_buffer cartridge
  buffer_of (Away away) = record { held = Away away; pending = away.noted.pending }

  -- what is pending over an open cartridge, or is seen to be pending, may be (own)
  abbrev pub IsHeld : Holding (OpenCartridge D × List Change) (ClosedCartridge D) → Type 0
  IsHeld (Open opened) = IsPendingOver opened.0 opened.1
  IsHeld (Closed cartridge) = Unit {0}
  IsHeld (Away away) = FitsBuffer away.noted.pending

  -- while the disks are away this is known (own)
  abbrev pub KnowsIn :
      Holding (OpenCartridge D × List Change) (ClosedCartridge D) → Option (List PlacedPart) → Type 0
  KnowsIn (Open opened) catalog = Unit {0}
  KnowsIn (Closed cartridge) catalog = Unit {0}
  KnowsIn (Away away) catalog = KnowsAway catalog away
