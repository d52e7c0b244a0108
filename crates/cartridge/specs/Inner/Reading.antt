-- What opening a side finds, step by step.
use Rattle.std.specs.Prelude.{◌≡◌, ◌+◌, ◌<◌, ◌^◌, ◌++◌, ℕ, List, [], ◌∷◌, length, drop, Bool, true, false, None, Some}
use Rattle.std.specs.List.{All}
use Rattle.volume_core.specs.declared.changes.Change.{Change}
use Rattle.volume_core.specs.declared.changes.Refusal.{Refusal}
use Rattle.volume_core.specs.Volume.{Part, AllApply, after, refusal_of}
use Rattle.gate_journal.specs.Side.{Heading}
use Rattle.change_records.specs.declared.records.Record.{Record}
use Rattle.change_records.specs.Readers.{IsAfter, ReaderState}
use Rattle.change_records.specs.Records.{IsRecord, SpellsAll, spell_all}
use Rattle.change_records.specs.Records.{outlined}
use Rattle.object_index.specs.Places.{PlacedPart, outline, placed_after}
use Rattle.object_index.specs.Indexes.{Indexes}
use Rattle.cartridge.specs.Contents.{bodies_of}
use Rattle.cartridge.specs.Inner.Open.{IsOpen}
use Rattle.cartridge.specs.Lying.{IsPlaceOf, LiesIn}
use Rattle.cartridge.specs.Notes.{Notes}

-- Up to that place the body spells changes that apply to the volume, and the index is that of the volume that they make
-- (own).
abbrev pub WalkedTo : ℕ → List ℕ → List Part → (List ℕ → ℕ → Type 0) → List PlacedPart → Type 0
WalkedTo from body volume P index =
    (done : List Change) × All IsRecord done × (body ≡ spell_all done ++ drop from body)
    × (from ≡ length (spell_all done)) × AllApply volume done × Indexes P (after volume done) index

-- the body spells no changes that apply to the volume (own)
abbrev pub IsBadBody : List Part → List ℕ → Type 0
IsBadBody volume body =
    (changes : List Change) → All IsRecord changes → body ≡ spell_all changes → AllApply volume changes → ⊥

-- The body spells changes that apply to the volume, and the index is that of the volume that they make; or it spells
-- none that apply (own).
abbrev pub WalksTo : Bool → List ℕ → List Part → (List ℕ → ℕ → Type 0) → List PlacedPart → Type 0
WalksTo true body volume P index =
    (changes : List Change) × SpellsAll body changes × AllApply volume changes × Indexes P (after volume changes) index
WalksTo false body volume P index = IsBadBody volume body

-- For each volume that the index is that of, and bodies in which its blocks lie: this holds of the volume, where the
-- body lies behind these at that place (own).
abbrev pub BehindEach : ℕ → List ℕ → List PlacedPart → (List Part → (List ℕ → ℕ → Type 0) → Type 0) → Type 0
BehindEach place body index made =
    (volume : List Part) (bodies : List (List ℕ)) (extents : List (ℕ × ℕ)) → length extents ≡ length bodies
    → Indexes (LiesIn bodies extents) volume index
    → made volume (LiesIn (bodies ++ body ∷ []) (extents ++ (place, length body) ∷ []))

-- These bytes of the body at that place were read since an index: the reader stands behind them, and the index is that
-- of the volume that the whole records in them make, however the body goes on (own).
pub record IsBodyWalked (start : List PlacedPart) (place : ℕ) (so_far : List ℕ) (index : List PlacedPart)
    (reader : ReaderState) : Type 0 where
  pub changes : List Change
  pub after : IsAfter so_far changes reader
  pub walked : (more : List ℕ)
      → BehindEach place (so_far ++ more) start (λ volume P. WalkedTo reader.begin (so_far ++ more) volume P index)

-- the bytes came, or show that the body spells no changes that apply, whatever follows (own)
abbrev pub Walks : Bool → List PlacedPart → ℕ → List ℕ → List PlacedPart → ReaderState → Type 0
Walks true start place bytes index reader = IsBodyWalked start place bytes index reader
Walks false start place bytes index reader =
    (more : List ℕ) → BehindEach place (bytes ++ more) start (λ volume P. IsBadBody volume (bytes ++ more))

-- some bytes of the body at that place came, and this many more end before the last place there is (own)
abbrev pub MayWalk : ℕ → ℕ → List PlacedPart → ReaderState → Type 0
MayWalk place count index reader =
    (start : List PlacedPart) × (so_far : List ℕ) × IsBodyWalked start place so_far index reader
    × (place + (length so_far + count) < 2 ^ 64)

-- a record that begins at that place is carried out on the index, or is refused (own)
abbrev pub EntersAt : Bool → Record → ℕ → List PlacedPart → List PlacedPart → Type 0
EntersAt true item at old new =
    (refusal_of (outline old) (outlined item) ≡ None)
    × ((place : ℕ) × (reserved : ℕ) × (new ≡ placed_after old item place reserved) × IsPlaceOf item at place)
EntersAt false item at old new = (cause : Refusal) × (refusal_of (outline old) (outlined item) ≡ Some cause)

-- Exactly these bodies spell what is noted. They lie in these extents of a side with this heading. The notes are a
-- cartridge's contents, and the index says where their objects lie (own).
pub record HasRead (index : List PlacedPart) (notes : Notes) (heading : Heading) (extents : List (ℕ × ℕ))
    (bodies : List (List ℕ)) : Type 0 where
  pub is_open : IsOpen heading extents false index notes
  pub spelled : bodies ≡ bodies_of notes.frames

-- Since an index and notes, these bytes of the body at that place came, and nothing more was noted (own).
pub record IsWithinBody (start : List PlacedPart) (noted : Notes) (index : List PlacedPart) (notes : Notes)
    (reader : ReaderState) (place : ℕ) (so_far : List ℕ) : Type 0 where
  pub notes_same : notes ≡ noted
  pub walked : IsBodyWalked start place so_far index reader
