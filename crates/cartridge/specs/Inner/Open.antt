-- What holds of an open cartridge.
use Rattle.std.specs.Prelude.{◌≡◌, ◌⊎◌, ℕ, List, [], length, Bool, false}
use Rattle.volume_core.specs.declared.changes.Change.{Change}
use Rattle.tape_disk.specs.Disk.{DiskState, Each}
use Rattle.gate_journal.specs.Side.{Front, Heading, StandsFor}
use Rattle.cartridge_sides.specs.declared.which.Which.{Which}
use Rattle.cartridge_sides.specs.Roles.{MayCountBeside}
use Rattle.object_index.specs.Places.{PlacedPart}
use Rattle.object_index.specs.Indexes.{Indexes}
use Rattle.cartridge.specs.Contents.{Contents, IsContents, bodies_of, volume_made, with_frames}
use Rattle.cartridge.specs.Lying.{LiesOnSide}
use Rattle.cartridge.specs.Notes.{Notes, noted_as, noted_contents}

-- What holds of an open cartridge over any disk: what is noted is a cartridge's contents, the journal has its heading
-- and as many frames, and the index says where its objects lie (own).
pub record IsOpen (heading : Heading) (extents : List (ℕ × ℕ)) (failed : Bool) (index : List PlacedPart)
    (notes : Notes) : Type 0 where
  pub heading_is : heading ≡ notes.heading
  pub contents : IsContents (noted_contents notes)
  pub at_rest : failed ≡ false → notes.torn ≡ []
  pub counted : length extents ≡ length notes.frames
  pub lies : Indexes (LiesOnSide notes extents) (volume_made (noted_contents notes)) index

-- the image of the side that counts stands for these contents behind that front (own)
abbrev pub SideGives : Front → Contents → List ℕ → Type 0
SideGives front contents image = IsContents contents × StandsFor front (bodies_of contents.frames) image

-- the image of the side that counts stands for these contents behind that front, or for these with the frame that was
-- in flight (own)
abbrev pub SideShows : Front → Contents → List (List Change) → List ℕ → Type 0
SideShows front contents torn image =
    SideGives front contents image ⊎ SideGives front (with_frames contents torn) image

-- What holds where both disks are honest: the bodies spell what is noted, each image of the side that counts shows it,
-- and the other disk's images let it count (own).
pub record StoresContents (disk spare : DiskState) (which : Which) (front : Front) (bodies : List (List ℕ))
    (notes : Notes) : Type 0 where
  pub bodies_are : bodies ≡ bodies_of notes.frames
  pub shows : Each disk (SideShows front (noted_as which front.head.copied notes) notes.torn)
  pub beside : Each spare (MayCountBeside which front.pair front.head)
