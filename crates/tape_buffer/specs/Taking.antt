-- How many changes a medium may take without memory and without its device, and what is then pending.
use Rattle.std.specs.Prelude.{◌≡◌, ◌⊎◌, ◌+◌, ◌*◌, ℕ, List, true, false, length, sum_by}
use Rattle.vtl_base.specs.declared.layout.TheConstants.{RECORD_HEAD}
use Rattle.vtl_base.specs.declared.limits.TheConstants.{BUFFER_BYTES, BUFFER_RECORDS}
use Rattle.volume_core.specs.declared.changes.Change.{Change}
use Rattle.volume_core.specs.Medium.{block_bytes, frame_size}
use Rattle.cartridge.specs.Answers.{LacksStores}
use Rattle.cartridge.specs.State.{ClosedCartridge, OpenCartridge}
use Rattle.tape_buffer.specs.declared.budgets.Budget.{Budget}
use Rattle.tape_buffer.specs.declared.holding.Holding.{Holding}
use Rattle.tape_buffer.specs.declared.holding.Holding.TheVariants.{Open, Closed}
use Rattle.tape_buffer.specs.State.{BufferState}

-- a medium that is lent to take changes, and how many it may still take (own)
pub record DisksState (D : Type 0) : Type 0 where
  pub buffer : BufferState D
  pub left : Budget

-- the bytes of the longest body of what is pending (own)
abbrev pub longest_body : ℕ
longest_body = BUFFER_BYTES + RECORD_HEAD * BUFFER_RECORDS

module _ {D : Type 0} where
  -- How many records a medium may take: as many as its buffer, if it works; or none, since it has failed, or since
  -- memory ran out, so less is reserved than all that take (own).
  abbrev pub LendsRecords : OpenCartridge D → List Change → ℕ → Type 0
  LendsRecords cartridge pending records =
      ((cartridge.failed ≡ false) × (records + length pending ≡ BUFFER_RECORDS))
      ⊎ ((records ≡ 0) × ((cartridge.failed ≡ true)
      ⊎ LacksStores cartridge.reserved BUFFER_RECORDS longest_body BUFFER_RECORDS))

  -- an open cartridge is lent, as it was except for what is reserved; `left` is what is left of the bytes of the buffer
  -- and of the room of the side, and how many records may be taken (own)
  pub record LendsOpen (old : OpenCartridge D) (pending : List Change) (new : OpenCartridge D) (left : Budget)
      : Type 0 where
    pub same : new ≡ record old { reserved = new.reserved }
    pub records : LendsRecords old pending left.records
    pub bytes : left.bytes + sum_by block_bytes pending ≡ BUFFER_BYTES
    pub room : left.room + sum_by frame_size pending ≡ old.room

  -- the same of what is held; a parked medium takes no change (own)
  abbrev pub LendsHeld :
      Holding (OpenCartridge D) (ClosedCartridge D) → List Change → Holding (OpenCartridge D) (ClosedCartridge D)
      → Budget → Type 0
  LendsHeld (Open old) pending (Open new) left = LendsOpen old pending new left
  LendsHeld (Closed old) pending (Closed new) left = (new ≡ old) × (left.records ≡ 0)
  LendsHeld _ pending _ left = ⊥

  -- a medium is lent, with what is pending (own)
  pub record LendsFrom (old : BufferState D) (new : DisksState D) : Type 0 where
    pub pending : new.buffer.pending ≡ old.pending
    pub held : LendsHeld old.held old.pending new.buffer.held new.left
