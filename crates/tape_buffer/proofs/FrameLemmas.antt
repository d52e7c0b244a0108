-- Which frames are stored while a change is accepted.
use Rattle.std.specs.Prelude.{◌≡◌, ◌++◌, List, [], ◌∷◌, Bool, true, false, Err, IsTrue, refl}
use Rattle.volume_core.specs.declared.changes.Change.{Change}
use Rattle.volume_core.specs.declared.media.MediumError.{MediumError}
use Rattle.volume_core.specs.declared.media.MediumError.TheVariants.{Refused, NoMemory, SideFull, Device, Failed, Unreadable}
use Rattle.volume_core.specs.Medium.{MediumState, Settles}
use Rattle.tape_buffer.specs.Frames.{AcceptsInFrames, MakesWay, with_pending}
use Rattle.tape_buffer.specs.Limits.{FitsBuffer}

-- while a change may wait, nothing is stored for it
pub way_as_it_is : (full : Bool) (frames : List (List Change)) (pending : List Change) (change : Change)
    → ((FitsBuffer (pending ++ change ∷ []) → ⊥) → IsTrue full) → full ≡ false
    → MakesWay frames pending change frames pending
way_as_it_is true frames pending change told none = absurd (cc)
way_as_it_is false frames pending change told none =
    record { waits = λ fits. (refl, refl); goes = λ past. let never : IsTrue false = told past in absurd (cc) }

-- where it may not, all that is pending is stored for it
pub way_once_stored : (full : Bool) (frames new : List (List Change)) (pending left : List Change) (change : Change)
    → (IsTrue full → FitsBuffer (pending ++ change ∷ []) → ⊥) → full ≡ true
    → new ≡ with_pending frames pending → left ≡ [] → MakesWay frames pending change new left
way_once_stored true frames new pending left change told is one none =
    record { waits = λ fits. absurd (told refl fits); goes = λ past. (one, none) }
way_once_stored false frames new pending left change told is one none = absurd (cc)

-- where the device failed, or had failed, no frame is stored
pub frames_refused : (old left : MediumState) (change : Change) (error : MediumError) (frames new : List (List Change))
    (pending now : List Change)
    → Settles old (Err error) left → new ≡ frames → AcceptsInFrames change (Err error) frames pending new now
frames_refused old left change Device frames new pending now answer same = same
frames_refused old left change Failed frames new pending now answer same = same
frames_refused old left change (Refused cause) frames new pending now answer same = absurd answer
frames_refused old left change NoMemory frames new pending now answer same = absurd answer
frames_refused old left change SideFull frames new pending now answer same = absurd answer
frames_refused old left change Unreadable frames new pending now answer same = absurd answer
