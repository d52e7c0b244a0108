-- How many frames a storing makes of what is pending, over the cartridge that is held.
use Rattle.std.specs.Prelude.{◌≡◌, ◌++◌, List, [], ◌∷◌, Bool, true, false, Result, Ok, Err, if◌then◌else◌}
use Rattle.volume_core.specs.declared.changes.Change.{Change}
use Rattle.volume_core.specs.declared.media.MediumError.{MediumError}
use Rattle.volume_core.specs.declared.media.MediumError.TheVariants as Errors
use Rattle.volume_core.specs.declared.media.Turn.{Turn}
use Rattle.volume_core.specs.declared.media.Turn.TheVariants.{Idle, Stored, Device}
use Rattle.cartridge.specs.State.{ClosedCartridge, OpenCartridge}
use Rattle.tape_buffer.specs.declared.holding.Holding.{Holding}
use Rattle.tape_buffer.specs.declared.holding.Holding.TheVariants.{Open, Closed, Away}
use Rattle.tape_buffer.specs.Limits.{FitsBuffer}
use Rattle.tape_buffer.specs.State.{BufferState}

-- the frames of a cartridge that is held, each the changes that it spells; of a closed one those that are known; none
-- while the disks are away (own)
abbrev pub frames_held : {D : Type 0} → Holding (OpenCartridge D) (ClosedCartridge D) → List (List Change)
frames_held (Open cartridge) = cartridge.contents.frames
frames_held (Closed cartridge) = if cartridge.known then cartridge.contents.frames else []
frames_held (Away away) = []

-- the frames of the cartridge of a buffered medium (own)
abbrev pub frames_in : {D : Type 0} → BufferState D → List (List Change)
frames_in buffer = frames_held buffer.held

-- these frames, and one more with all that was pending; none more where nothing was (own)
abbrev pub with_pending : List (List Change) → List Change → List (List Change)
with_pending frames [] = frames
with_pending frames (change ∷ changes) = frames ++ (change ∷ changes) ∷ []

-- all that was pending is stored as one frame, or the side has the frames that it had (own)
abbrev pub IsOneFrame : Result Unit MediumError → List (List Change) → List Change → List (List Change) → Type 0
IsOneFrame (Ok done) old pending new = new ≡ with_pending old pending
IsOneFrame (Err error) old pending new = new ≡ old

-- the same of a turn (own)
abbrev pub IsOneFrameIn : Turn → List (List Change) → List Change → List (List Change) → Type 0
IsOneFrameIn (Stored n) old pending new = new ≡ with_pending old pending
IsOneFrameIn Idle old pending new = new ≡ old
IsOneFrameIn Device old pending new = new ≡ old

-- the same of a parking; a medium that has failed stores nothing more (own)
abbrev pub ParksInFrames :
    Bool → Result Unit MediumError → List (List Change) → List Change → List (List Change) → Type 0
ParksInFrames false result old pending new = IsOneFrame result old pending new
ParksInFrames true result old pending new = new ≡ old

-- Room is made for a change. Where the buffer takes it beside what is pending, nothing is stored, and all that is
-- pending still; else all that is stored, as one frame, and nothing is pending (own).
pub record MakesWay (frames : List (List Change)) (pending : List Change) (change : Change)
    (new : List (List Change)) (left : List Change) : Type 0 where
  pub waits : FitsBuffer (pending ++ change ∷ []) → (new ≡ frames) × (left ≡ pending)
  pub goes : (FitsBuffer (pending ++ change ∷ []) → ⊥) → (new ≡ with_pending frames pending) × (left ≡ [])

-- A change is pending, or memory ran out for it, once room was made for it; with any other answer no frame is stored
-- (own).
abbrev pub AcceptsInFrames :
    Change → Result Unit MediumError → List (List Change) → List Change → List (List Change) → List Change → Type 0
AcceptsInFrames change (Ok done) frames pending new now =
    (left : List Change) × MakesWay frames pending change new left × (now ≡ left ++ change ∷ [])
AcceptsInFrames change (Err Errors.NoMemory) frames pending new now = MakesWay frames pending change new now
AcceptsInFrames change (Err error) frames pending new now = new ≡ frames
