-- SPACE.
use Rattle.std.specs.Prelude.{◌≡◌, ℕ, ℤ, pos, zero, [], Some, Bool, true, false, Ok, Err}
use Rattle.vtl_base.specs.declared.space_codes.SpaceCode.{SpaceCode}
use Rattle.vtl_base.specs.declared.space_codes.SpaceCode.TheVariants.{Blocks, Filemarks, EndOfData}
use Rattle.scsi_sense.specs.declared.replies.Reply.{Reply}
use Rattle.scsi_sense.specs.Replies.{good_with, check_with}
use Rattle.scsi_sense.specs.Senses.{filemark_detected, end_of_data, beginning}
use Rattle.volume_core.specs.Volume.{objects_of}
use Rattle.positioning.specs.declared.positions.Stop.{Stop}
use Rattle.positioning.specs.declared.positions.Stop.TheVariants.{Done, AtMark, AtEnd, AtStart}
use Rattle.positioning.specs.Motion.{SpacesTo}
use Rattle.drive_commands.specs.State.{Mounted, contents_of}
use Rattle.drive_commands.specs.Relations.{MediumRelation, Idles}
use Rattle.drive_commands.specs.StoredFirst.{StoredFirst}

-- whether a SPACE is over nothing: a count of 0 where blocks or filemarks are counted (SSC-4, SPACE(6))
abbrev pub is_over_nothing : SpaceCode → ℤ → Bool
is_over_nothing EndOfData count = false
is_over_nothing Blocks (pos zero) = true
is_over_nothing Filemarks (pos zero) = true
is_over_nothing _ _ = false

-- what a host is answered by the cause for which a motion ended, and by what is left of the count
-- (SSC-4, SPACE(6); that EOM is 0 at the end of data, own)
abbrev pub space_reply : Stop → ℕ → Reply
space_reply Done left = good_with []
space_reply AtMark left = check_with (filemark_detected left) []
space_reply AtEnd left = check_with (end_of_data (Some left)) []
space_reply AtStart left = check_with (beginning left) []

-- the position ends where SPACE ends in its partition, the reply shows why, and the medium stays (SSC-4, SPACE(6))
pub record IsSpaced (code : SpaceCode) (count : ℤ) (old : Mounted) (reply : Reply) (new : Mounted) : Type 0 where
  pub stop : Stop
  pub left : ℕ
  pub ends :
      SpacesTo (objects_of (contents_of old) old.position.part) old.position.obj code count
      new.position.obj stop left
  pub part : new.position.part ≡ old.position.part
  pub medium : new.medium ≡ old.medium
  pub replied : reply ≡ space_reply stop left

-- the motion, which meets no fault (SSC-4, SPACE(6))
abbrev pub SpaceMotion : SpaceCode → ℤ → MediumRelation
SpaceMotion code count old (Ok reply) made new = (made ≡ []) × IsSpaced code count old reply new
SpaceMotion code count old (Err fault) made new = ⊥

-- what is pending is stored, and then the motion is done; over nothing, neither (SSC-4, SPACE(6); that it stores
-- first, own)
abbrev pub SpaceWhen : Bool → SpaceCode → ℤ → MediumRelation
SpaceWhen true code count = Idles
SpaceWhen false code count = StoredFirst (SpaceMotion code count)

-- SPACE (SSC-4, SPACE(6))
abbrev pub SpaceWork : SpaceCode → ℤ → MediumRelation
SpaceWork code count = SpaceWhen (is_over_nothing code count) code count
