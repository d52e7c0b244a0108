-- LOCATE.
use Rattle.std.specs.Prelude.{◌≡◌, ℕ, [], Option, None, Some, Ok, Err}
use Rattle.scsi_sense.specs.declared.replies.Reply.{Reply}
use Rattle.scsi_sense.specs.Replies.{good_with, check_with}
use Rattle.scsi_sense.specs.Senses.{end_of_data}
use Rattle.volume_core.specs.Volume.{objects_of}
use Rattle.positioning.specs.declared.positions.Pos.{Pos}
use Rattle.positioning.specs.declared.positions.Stop.{Stop}
use Rattle.positioning.specs.declared.positions.Stop.TheVariants.{Done}
use Rattle.positioning.specs.Motion.{LocatesTo}
use Rattle.drive_commands.specs.State.{Mounted, contents_of}
use Rattle.drive_commands.specs.Relations.{MediumRelation}
use Rattle.drive_commands.specs.StoredFirst.{StoredFirst}

-- the partition that LOCATE goes to: the one that is asked for, else the position's (SSC-4, LOCATE(10))
abbrev pub part_asked : Option ℕ → Pos → ℕ
part_asked (Some part) position = part
part_asked None position = position.part

-- what a host is answered by the cause for which a motion ended; an object behind the end of data leaves no residue
-- (SSC-4, LOCATE(10); that EOM is 0, own)
abbrev pub locate_reply : Stop → Reply
locate_reply Done = good_with []
locate_reply _ = check_with (end_of_data None) []

-- The position is in the partition that LOCATE goes to, and where it ends there. The reply shows why, and the medium
-- stays (SSC-4, LOCATE(10)).
pub record IsLocated (object : ℕ) (part : Option ℕ) (old : Mounted) (reply : Reply) (new : Mounted) : Type 0 where
  pub stop : Stop
  pub left : ℕ
  pub ends :
      LocatesTo (objects_of (contents_of old) (part_asked part old.position)) object new.position.obj stop left
  pub part_is : new.position.part ≡ part_asked part old.position
  pub medium : new.medium ≡ old.medium
  pub replied : reply ≡ locate_reply stop

-- the motion, which meets no fault (SSC-4, LOCATE(10))
abbrev pub LocateMotion : ℕ → Option ℕ → MediumRelation
LocateMotion object part old (Ok reply) made new = (made ≡ []) × IsLocated object part old reply new
LocateMotion object part old (Err fault) made new = ⊥

-- what is pending is stored, and then the motion is done (SSC-4, LOCATE(10); that it stores first, own)
abbrev pub LocateWork : ℕ → Option ℕ → MediumRelation
LocateWork object part = StoredFirst (LocateMotion object part)
