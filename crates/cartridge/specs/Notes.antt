-- What proofs alone know of a side, beside what is in memory.
use Rattle.std.specs.Prelude.{List, [], ◌∷◌, ◌++◌, Option, None}
use Rattle.volume_core.specs.declared.changes.Change.{Change}
use Rattle.gate_journal.specs.declared.heads.Copied.{Copied}
use Rattle.gate_journal.specs.Side.{Heading}
use Rattle.cartridge_sides.specs.declared.which.Which.{Which}
use Rattle.cartridge_sides.specs.declared.which.Which.TheVariants.{First}
use Rattle.cartridge.specs.Contents.{Contents, contents_from}

-- what is noted of a side: its heading, the changes that each of its frames spells, and those of the frame that was
-- in flight when the disk failed, of none or of one (own)
pub record Notes : Type 0 where
  pub heading : Heading
  pub frames : List (List Change)
  pub torn : List (List Change)

-- The contents that are noted of a cartridge: this side of it counts, and the notes say this of a copy (own).
abbrev pub noted_as : Which → Option Copied → Notes → Contents
noted_as which copied notes = contents_from which (record { heading = notes.heading; copied = copied }) notes.frames

-- what is noted as the contents of one that was never reclaimed (own)
abbrev pub noted_contents : Notes → Contents
noted_contents = noted_as First None

-- what is noted, with one frame more, of these changes (own)
abbrev pub with_frame : Notes → List Change → Notes
with_frame notes changes = record notes { frames = notes.frames ++ changes ∷ [] }

-- what is noted, with these changes in a frame that is in flight (own)
abbrev pub with_torn : Notes → List Change → Notes
with_torn notes changes = record notes { torn = changes ∷ [] }
