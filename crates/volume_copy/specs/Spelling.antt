-- What the body of a copy's frame spells.
use Rattle.std.specs.Prelude.{◌≡◌, ℕ, List, length, sum_by}
use Rattle.vtl_base.specs.declared.layout.TheConstants.{BLOCK, ERASE, MARKS}
use Rattle.volume_core.specs.declared.changes.Change.{Change}
use Rattle.change_records.specs.declared.records.Record.{Record}
use Rattle.change_records.specs.declared.records.Record.TheVariants as Records
use Rattle.change_records.specs.Records.{spell_all, spell_change, spell_head}
use Rattle.volume_copy.specs.declared.entries.Entry.{Entry}
use Rattle.volume_copy.specs.Entries.{entry_size}
use Rattle.volume_copy.specs.Frames.{IsFirstFrame}
use Rattle.volume_copy.specs.Matching.{AllMatch, Matches}

-- the head of a record: all but the bytes of its block (own)
abbrev pub record_head : Record → List ℕ
record_head (Records.Put part at size) = spell_head BLOCK part at size
record_head (Records.Marks part at count) = spell_head MARKS part at count
record_head (Records.Erase part at) = spell_head ERASE part at 0

-- for a reader of blocks: whether it is honest, and where blocks lie
module _ (honest : Type 0) (lies : List ℕ → ℕ → Type 0) where
  -- `size` bytes were read at a place: the block that lies there, if it has as many (own)
  pub record IsBlockRead (place size : ℕ) (block : List ℕ) : Type 0 where
    pub sized : length block ≡ size
    pub is_there : honest → (there : List ℕ) → lies there place → length there ≡ size → block ≡ there

  -- the bytes are as many as the entry says, and spell each change that the entry may be of (own)
  pub record SpellsEntry (entry : Entry) (bytes : List ℕ) : Type 0 where
    pub sized : length bytes ≡ entry_size entry
    pub spelled : honest → (change : Change) → Matches lies change entry → bytes ≡ spell_change change

  -- The body of the first frame of these items: it has the bytes of its entries, and spells their changes (own).
  pub record SpellsFrame (frame rest items : List Entry) (body : List ℕ) : Type 0 where
    pub first : IsFirstFrame entry_size frame rest items
    pub sized : length body ≡ sum_by entry_size frame
    pub spelled : honest → (changes : List Change) → AllMatch lies changes frame → body ≡ spell_all changes
