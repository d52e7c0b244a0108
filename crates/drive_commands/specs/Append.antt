-- A change at the position, which is then behind what the change adds: WRITE, WRITE FILEMARKS, ERASE.
use Rattle.std.specs.Prelude.{◌≡◌, ◌+◌, ◌++◌, ◌⊎◌, ℕ, List, [], ◌∷◌, length, Option, None, Some, Bool, true, false, Ok, Err, if◌then◌else◌}
use Rattle.scsi_sense.specs.declared.replies.Reply.{Reply}
use Rattle.scsi_sense.specs.Replies.{good_with, check_with}
use Rattle.scsi_sense.specs.Senses.{early_warning, volume_overflow}
use Rattle.volume_core.specs.declared.changes.Change.{Change}
use Rattle.volume_core.specs.declared.changes.Change.TheVariants.{Put, Marks, Erase}
use Rattle.volume_core.specs.declared.changes.Refusal.{Refusal}
use Rattle.volume_core.specs.declared.changes.Refusal.TheVariants.{NoRoom}
use Rattle.volume_core.specs.Volume.{Part, refusal_of, changed, added_by}
use Rattle.volume_core.specs.Medium.{MediumState, Fits, IsFull, Works, Breaks}
use Rattle.positioning.specs.declared.positions.Pos.{Pos}
use Rattle.positioning.specs.Report.{is_near_end}
use Rattle.drive_commands.specs.declared.faults.Fault.TheVariants.{NoMemory, Writing, SideFull}
use Rattle.drive_commands.specs.State.{Mounted, contents_of}
use Rattle.drive_commands.specs.Relations.{MediumRelation, Stays, FailsToStore}

-- INFORMATION for a change that does not fit: the bytes of its block, or the number of its marks. An erasing adds
-- nothing, and has none (SSC-4, WRITE(6), WRITE FILEMARKS(6); all of them, own).
abbrev pub amount_of : Change → Option ℕ
amount_of (Put part at block) = Some (length block)
amount_of (Marks part at count) = Some count
amount_of (Erase part at) = None

-- the position behind what a change adds at a position (SSC-4, logical position)
abbrev pub behind : Change → Pos → Pos
behind change position = record position { obj = position.obj + length (added_by change) }

-- the change stands on a medium that works, and the position is behind it (SSC-4, WRITE(6), WRITE FILEMARKS(6))
pub record IsAppended (change : Change) (old : Mounted) (medium : MediumState) (position : Pos) : Type 0 where
  pub medium_is : Works (changed (contents_of old) change) medium
  pub position_is : position ≡ behind change old.position

-- whether a change that adds this much is answered by an early warning: what stands before the position behind it
-- reaches into the early zone; an ERASE warns of nothing (SSC-4, early warning; the zone own)
abbrev pub is_warned : Option ℕ → List Part → Pos → Bool
is_warned None volume position = false
is_warned (Some amount) volume position = is_near_end volume position

-- GOOD, or an early warning (SSC-4, early warning)
abbrev pub done_reply : Bool → Reply
done_reply warned = if warned then check_with early_warning [] else good_with []

-- the reply to a change that was made: the warning depends on the volume as it is then (SSC-4, early warning)
abbrev pub made_reply : Change → Mounted → Reply
made_reply change old =
    done_reply (is_warned (amount_of change) (changed (contents_of old) change) (behind change old.position))

-- What does not fit is not written, and the reply shows how much that is. An ERASE always fits (SSC-4, WRITE(6);
-- nothing is written that does not fit whole, own).
abbrev pub LacksRoom : Option ℕ → Mounted → Reply → List Change → Mounted → Type 0
LacksRoom None old reply made new = ⊥
LacksRoom (Some amount) old reply made new =
    (reply ≡ check_with (volume_overflow (Some amount)) []) × (made ≡ []) × (new ≡ old)

-- where no fault came, by whether the volume refuses the change; one that settles leaves nothing pending (SSC-4)
abbrev pub AppendAnswer :
    Option Refusal → Bool → Change → Mounted → Reply → List Change → Mounted → Type 0
AppendAnswer None settles change old reply made new =
    (reply ≡ made_reply change old) × (made ≡ change ∷ []) × IsAppended change old new.medium new.position
    × (settles ≡ true → new.medium.pending ≡ []) × Fits old.medium.room (old.medium.pending ++ change ∷ [])
AppendAnswer (Some NoRoom) settles change old reply made new = LacksRoom (amount_of change) old reply made new
AppendAnswer (Some _) settles change old reply made new = ⊥

-- the device failed: while room was made in the buffer, before the change was accepted; or once it was, and then only
-- where it settles (own)
abbrev pub AppendFails : Bool → Change → Mounted → List Change → Mounted → Type 0
AppendFails settles change old made new =
    ((made ≡ []) × FailsToStore old new)
    ⊎ ((settles ≡ true) × (made ≡ change ∷ [])
    × (between : MediumState) × IsAppended change old between new.position × Breaks between new.medium)

-- A change is made at the position, or nothing is changed. Memory runs out, the side is full and the device fails only
-- for a change that the volume does not refuse. The side is full exactly where what is pending and the change exceed
-- its room: there nothing else is answered (SSC-4; faults own).
abbrev pub AppendWork : Bool → Change → MediumRelation
AppendWork settles change old (Ok reply) made new =
    AppendAnswer (refusal_of (contents_of old) change) settles change old reply made new
AppendWork settles change old (Err NoMemory) made new =
    (refusal_of (contents_of old) change ≡ None) × (made ≡ []) × Stays old new
    × Fits old.medium.room (old.medium.pending ++ change ∷ [])
AppendWork settles change old (Err (SideFull residue)) made new =
    (refusal_of (contents_of old) change ≡ None) × (residue ≡ amount_of change) × (made ≡ [])
    × (new ≡ old) × IsFull old.medium.room (old.medium.pending ++ change ∷ [])
AppendWork settles change old (Err Writing) made new =
    (refusal_of (contents_of old) change ≡ None) × AppendFails settles change old made new
    × Fits old.medium.room (old.medium.pending ++ change ∷ [])
AppendWork settles change old (Err _) made new = ⊥
