-- What an opening of two disks finds.
use Rattle.std.specs.Prelude.{List, ℕ, Result, Ok, Err}
use Rattle.tape_disk.specs.TwoDisks.{Images, TwoDisks}
use Rattle.gate_journal.specs.Heads.{Head}
use Rattle.cartridge_sides.specs.declared.which.Which.{Which}
use Rattle.cartridge_sides.specs.Pairs.{SideCounts}
use Rattle.cartridge.specs.declared.opening.Unopened.{Unopened}
use Rattle.cartridge.specs.State.{OpenCartridge}

-- the disks, in an open cartridge or beside why they were not opened (own)
abbrev pub disks_found : {D : Type 0} → Result (OpenCartridge D) (Unopened D) → TwoDisks D
disks_found (Ok cartridge) = cartridge.disks
disks_found (Err refused) = record { first = refused.first; second = refused.second }

-- that side of the two images counts (own)
abbrev pub HasSide : Which → Images → Type 0
HasSide which images = (head : Head) × (rest : List ℕ) × SideCounts which head rest images.0 images.1
