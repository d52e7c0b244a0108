-- READ.
use Rattle.std.specs.Prelude.{◌≡◌, ◌≤◌, ◌+◌, ◌-◌, ◌%◌, ◌^◌, ℕ, zero, suc, List, [], length, take, slice_get, Option, None, Some, Bool, ◌==◌, if◌then◌else◌, Ok, Err}
use Rattle.vtl_base.specs.declared.limits.TheConstants.{MAX_BLOCK}
use Rattle.scsi_sense.specs.declared.replies.Reply.{Reply}
use Rattle.scsi_sense.specs.Replies.{good_with, check_with}
use Rattle.scsi_sense.specs.Senses.{end_of_data, filemark_detected, incorrect_length}
use Rattle.volume_core.specs.declared.objects.Kind.TheVariants as Kinds
use Rattle.volume_core.specs.declared.objects.Object.{Object}
use Rattle.volume_core.specs.declared.objects.Object.TheVariants.{Block, Mark}
use Rattle.volume_core.specs.Volume.{objects_of, kind_at}
use Rattle.volume_core.specs.Medium.{after_failed_read}
use Rattle.positioning.specs.declared.positions.Pos.{Pos}
use Rattle.drive_commands.specs.declared.faults.Fault.TheVariants.{NoMemory, Reading}
use Rattle.drive_commands.specs.State.{Mounted, contents_of}
use Rattle.drive_commands.specs.Relations.{MediumRelation, Idles}
use Rattle.drive_commands.specs.StoredFirst.{StoredFirst}

-- the object at the position, None at end of data (SSC-4, logical position)
abbrev pub object_at : Mounted → Option Object
object_at m = slice_get (objects_of (contents_of m) m.position.part) m.position.obj

-- a block stands at the position (SSC-4, logical position)
abbrev pub IsAtBlock : Mounted → Type 0
IsAtBlock m = kind_at (contents_of m) m.position.part m.position.obj ≡ Some Kinds.Block

-- the position behind the object at it (SSC-4, logical position)
abbrev pub next : Pos → Pos
next position = record position { obj = position.obj + 1 }

-- the length that was asked minus the block's, in 32-bit two's complement (SSC-4, READ(6))
abbrev pub residue_of : ℕ → ℕ → ℕ
residue_of asked has = (asked + 2 ^ 32 - has) % 2 ^ 32

-- The bytes that fit: with GOOD where the lengths are equal or SILI is set, else with the sense data of an incorrect
-- length (SSC-4, READ(6)).
abbrev pub block_reply : Bool → ℕ → List ℕ → Reply
block_reply suppress asked block =
    if asked == length block then good_with block
    else (if suppress then good_with (take asked block)
    else check_with (incorrect_length (residue_of asked (length block))) (take asked block))

-- a host is given a block; where the medium is honest, its bytes are those that stand on it
-- (SSC-4, READ(6); honesty own)
pub record GivesBlock
    (honest : Type 0) (block : List ℕ) (suppress : Bool) (asked : ℕ) (reply : Reply) : Type 0 where
  pub given : List ℕ
  pub bound : length given ≤ MAX_BLOCK
  pub same : honest → given ≡ block
  pub replied : reply ≡ block_reply suppress asked given

-- reply and position by the object at the position; at end of data the position stays (SSC-4, READ(6))
abbrev pub ReadAnswer :
    Type 0 → Option Object → Bool → ℕ → Pos → Reply → Pos → Type 0
ReadAnswer honest None suppress asked before reply now =
    (reply ≡ check_with (end_of_data (Some asked)) []) × (now ≡ before)
ReadAnswer honest (Some Mark) suppress asked before reply now =
    (reply ≡ check_with (filemark_detected asked) []) × (now ≡ next before)
ReadAnswer honest (Some (Block block)) suppress asked before reply now =
    GivesBlock honest block suppress asked reply × (now ≡ next before)

-- the object at the position is given, and the medium stays; memory runs out or the device fails only where that is a
-- block, whose bytes are asked for (SSC-4, READ(6); faults own)
abbrev pub GivesObject : Type 0 → Bool → ℕ → MediumRelation
GivesObject honest suppress asked old (Ok reply) made new =
    (made ≡ []) × (new.medium ≡ old.medium)
    × ReadAnswer honest (object_at old) suppress asked old.position reply new.position
GivesObject honest suppress asked old (Err NoMemory) made new = (made ≡ []) × IsAtBlock old × (new ≡ old)
GivesObject honest suppress asked old (Err Reading) made new =
    (made ≡ []) × IsAtBlock old × (new ≡ record old { medium = after_failed_read old.medium })
GivesObject honest suppress asked old (Err _) made new = ⊥

-- what is pending is stored, and then the object at the position is given; of no bytes nothing is done
-- (SSC-4, READ(6); that it stores first, own)
abbrev pub ReadWork : Type 0 → Bool → ℕ → MediumRelation
ReadWork honest suppress zero old answer made new = Idles old answer made new
ReadWork honest suppress (suc n) old answer made new =
    StoredFirst (GivesObject honest suppress (suc n)) old answer made new
