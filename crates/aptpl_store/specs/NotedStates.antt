-- What only proofs know of a side, beside what is in memory.
use Rattle.std.specs.Prelude.{List, [], ◌∷◌, ◌++◌, Option, None, Some}
use Rattle.pr_core.specs.declared.states.PrState.{PrState}

-- the notes of a side: the state that each of its frames spells, and the one that was being saved when the disk failed
-- (own)
pub record NotedStates : Type 0 where
  pub states : List PrState
  pub torn : Option PrState

-- nothing was saved yet (own)
abbrev pub no_notes : NotedStates
no_notes = record { states = []; torn = None }

-- the notes with one more state (own)
abbrev pub with_state : NotedStates → PrState → NotedStates
with_state notes state = record notes { states = notes.states ++ state ∷ [] }

-- the notes with this state in doubt (own)
abbrev pub with_torn_state : NotedStates → PrState → NotedStates
with_torn_state notes state = record notes { torn = Some state }
