-- Definitions for private contracts.
use Rattle.std.specs.Prelude.{◌≡◌, ◌⊎◌, ◌<◌, ℕ, List, ◌++◌, Option, None, Some, Result, Ok, Err}
use Rattle.vtl_base.specs.declared.faults.DevFault.{DevFault}
use Rattle.tape_disk.specs.Disk.{DiskState}
use Rattle.gate_journal.specs.Answers.{NoneFailed}
use Rattle.gate_journal.specs.declared.heads.ParsedHead.{ParsedHead}
use Rattle.gate_journal.specs.Heads.{Head, IsParsedHead, epoch_in, spell_side_head}
use Rattle.gate_journal.specs.Side.{OPEN}
use Rattle.cartridge_sides.specs.declared.choosing.Begins.{Begins}
use Rattle.cartridge_sides.specs.declared.choosing.Begins.TheVariants.{Closed, Open, Headless}
use Rattle.cartridge_sides.specs.declared.choosing.Counted.{Counted}
use Rattle.cartridge_sides.specs.declared.which.Which.TheVariants.{First, Second}
use Rattle.cartridge_sides.specs.Pairs.{IsClosedSide, IsOfCartridge, IsOpenSide, begun}
use Rattle.cartridge_sides.specs.Choosing.{Chooses, IsFaultOfOne}
pub mod Counting
pub mod Decided
pub mod Images
pub mod Starts

-- the bytes begin with a head of a cartridge's side (own)
abbrev pub HasHead : List ℕ → Type 0
HasHead bytes = (h : Head) × (rest : List ℕ) × IsOfCartridge h × (bytes ≡ spell_side_head h ++ rest)

-- the image begins with the ten bytes of a cartridge's side, with an open pair gate (own)
abbrev pub HasOpenPair : List ℕ → Type 0
HasOpenPair image = (side : ℕ) × (rest : List ℕ) × (image ≡ begun side OPEN ++ rest)

-- the image is an open side with a head (own)
abbrev pub IsOpenWith : ℕ → List ℕ → Type 0
IsOpenWith pair image = (h : Head) × (rest : List ℕ) × IsOpenSide pair h rest image

-- the image is an open side without a head (own)
abbrev pub IsHeadless : ℕ → List ℕ → Type 0
IsHeadless pair image = (rest : List ℕ) × (image ≡ begun OPEN pair ++ rest) × (HasHead rest → ⊥)

-- an image with the ten bytes of a side is closed, open with a head, or open without one (own)
abbrev pub OpensImage : List ℕ → Begins → Type 0
OpensImage image Closed = (pair : ℕ) × IsClosedSide pair image
OpensImage image (Open parsed) = (pair : ℕ) × (h : Head) × (rest : List ℕ) × IsOpenSide pair h rest image
    × IsParsedHead parsed h
OpensImage image Headless = (pair : ℕ) × IsHeadless pair image

-- the side with the greater epoch; None where the epochs are the same (own)
abbrev pub IsGreater : ParsedHead → ParsedHead → Option Counted → Type 0
IsGreater one two (Some chosen) =
    ((chosen ≡ record { which = First; head = one }) × (epoch_in two.copied < epoch_in one.copied))
    ⊎ ((chosen ≡ record { which = Second; head = two }) × (epoch_in one.copied < epoch_in two.copied))
IsGreater one two None = epoch_in one.copied ≡ epoch_in two.copied

-- the side that counts, by the bytes of two disks; None where none counts; or a fault (own)
abbrev pub FindsRead : Result (Option Counted) DevFault → DiskState → DiskState → DiskState → DiskState → Type 0
FindsRead (Ok found) first_old first_new second_old second_new =
    NoneFailed first_old first_new × NoneFailed second_old second_new
    × (first_old.honest → second_old.honest → Chooses first_old.seen second_old.seen found)
FindsRead (Err fault) first_old first_new second_old second_new =
    IsFaultOfOne fault first_old first_new second_old second_new
