-- How room is made for one more change.
use Rattle.std.specs.Prelude.{◌≡◌, ◌+◌, ◌++◌, List, [], ◌∷◌, length, Result, Ok, Err}
use Rattle.volume_core.specs.declared.media.MediumError.{MediumError}
use Rattle.volume_core.specs.declared.changes.Change.{Change}
use Rattle.volume_core.specs.Medium.{MediumState, Settles, Works, volume_of}
use Rattle.volume_core.specs.Volume.{Part, changed, part_of}
use Rattle.change_records.specs.Records.{spell_all}
use Rattle.cartridge.specs.Answers.{Lacks}
use Rattle.cartridge.specs.State.{Reserved}
use Rattle.tape_buffer.specs.Frames.{MakesWay}

-- a medium works on, with the same volume; or it was to store what is pending, and did not (own)
abbrev pub IsReadyToAdd : MediumState → Result Unit MediumError → MediumState → Type 0
IsReadyToAdd old (Ok done) new = Works (volume_of old) new
IsReadyToAdd old (Err error) new = Settles old (Err error) new

-- the frames of a side on which room is made for a change, or on which the device failed (own)
abbrev pub IsWay :
    Change → Result Unit MediumError → List (List Change) → List Change → List (List Change) → List Change → Type 0
IsWay change (Ok done) frames pending new left = MakesWay frames pending change new left
IsWay change (Err error) frames pending new left = new ≡ frames

-- less is reserved than these changes and one more take as one frame, if each puts something into the partition of that
-- one (own)
abbrev pub LacksOneMore : Reserved → List Change → Change → Type 0
LacksOneMore reserved pending change =
    Lacks reserved (part_of change) (length (spell_all (pending ++ change ∷ []))) (length pending + 1)

-- a volume once a change was added, or as it was where the change is returned (own)
abbrev pub with_added : Result Unit Change → Change → List Part → List Part
with_added (Ok done) change volume = changed volume change
with_added (Err back) change volume = volume
