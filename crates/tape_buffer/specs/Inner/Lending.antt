-- What a lent medium holds.
use Rattle.std.specs.Prelude.{◌≡◌, List}
use Rattle.volume_core.specs.declared.changes.Change.{Change}
use Rattle.cartridge.specs.State.{ClosedCartridge, OpenCartridge}
use Rattle.tape_buffer.specs.declared.budgets.Budget.{Budget}
use Rattle.tape_buffer.specs.declared.holding.Holding.{Holding}
use Rattle.tape_buffer.specs.declared.holding.Holding.TheVariants.{Open, Closed, Away}
use Rattle.tape_buffer.specs.Inner.Storing.{IsRoomyFor}
use Rattle.tape_buffer.specs.State.{IsPendingOver}

module _ {D : Type 0} where
  -- what is pending may be, and there is room for what may still be taken; over a closed cartridge nothing is (own)
  abbrev pub MayBeLent : Holding (OpenCartridge D × List Change) (ClosedCartridge D) → Budget → Type 0
  MayBeLent (Open opened) left = IsPendingOver opened.0 opened.1 × IsRoomyFor opened.0 opened.1 left
  MayBeLent (Closed cartridge) left = left.records ≡ 0
  MayBeLent (Away away) left = ⊥
