-- What the disks of an open cartridge show.
use Rattle.std.proofs.Common.{◌≡◌, List, false, length, ◌∙◌, ap}
use Rattle.tape_disk.specs.Disk.{DiskState}
use Rattle.tape_disk.specs.TwoDisks.{EachOfTwo}
use Rattle.gate_journal.specs.Side.{spell}
use Rattle.gate_journal.specs.State.{OpenSide, room_behind}
use Rattle.cartridge_sides.specs.declared.which.Which.{Which}
use Rattle.cartridge_sides.specs.Pairs.{gate_behind}
use Rattle.object_index.specs.Places.{PlacedPart}
use Rattle.cartridge.specs.Contents.{GivesContents, ShowsContents, bodies_of}
use Rattle.cartridge.specs.Disks.{disks_by}
use Rattle.cartridge.specs.Notes.{Notes, noted_as}
use Rattle.cartridge.specs.Inner.Open.{IsOpen, StoresContents}
use Rattle.cartridge.proofs.BesideLemmas.{end_is, gives_pair, shows_pair}
use Rattle.cartridge.proofs.DisksLemmas.{each_by}
use Rattle.cartridge.proofs.OpenLemmas.{sure_at_rest}

module _ {D : Type 0} (state : D → DiskState) (which : Which) (side : OpenSide D) (spare : D)
    (index : List PlacedPart) (notes : Notes)
    (is : IsOpen side.front.head.heading side.extents side.failed index notes)
    (stores : StoresContents (state side.disk) (state spare) which side.front side.bodies notes) where
  -- each pair of images shows what is noted
  pub shown_now : EachOfTwo state (disks_by which side.disk spare)
      (ShowsContents (noted_as which side.front.head.copied notes) notes.torn)
  shown_now =
      each_by state which side.disk spare (ShowsContents (noted_as which side.front.head.copied notes) notes.torn)
      (λ one other left also.
      shows_pair which side.front notes.heading is.heading_is one other (stores.beside other also) notes.frames
      notes.torn (stores.shows one left))

  -- where nothing failed, it gives that
  pub sure_now : side.failed ≡ false
      → EachOfTwo state (disks_by which side.disk spare) (GivesContents (noted_as which side.front.head.copied notes))
  sure_now fine =
      each_by state which side.disk spare (GivesContents (noted_as which side.front.head.copied notes))
      (λ one other left also.
      gives_pair which side.front notes.heading is.heading_is one other (stores.beside other also) notes.frames
      (sure_at_rest side.front (noted_as which side.front.head.copied notes) notes.torn one (is.at_rest fine)
      (stores.shows one left)))

  -- the room is what the side that counts leaves
  pub room_now : side.end ≡ length (spell side.front side.bodies)
      → room_behind side.end
      ≡ room_behind (gate_behind (record { heading = notes.heading; copied = side.front.head.copied })
      (bodies_of notes.frames))
  room_now end =
      ap room_behind (end ∙ end_is side.front side.bodies
      ∙ (λ i. gate_behind (record { heading = is.heading_is i; copied = side.front.head.copied })
      (stores.bodies_are i)))
