-- The steps of opening a side.
use Rattle.std.specs.Prelude.{◌≡◌, ℕ, List, length, None}
use Rattle.std.specs.List.{All}
use Rattle.gate_journal.specs.declared.header.SideKind.TheVariants.{Store}
use Rattle.gate_journal.specs.Side.{Heading}
use Rattle.pr_core.specs.declared.states.PrState.{PrState}
use Rattle.aptpl_store.specs.Contents.{latest, state_bodies}
use Rattle.aptpl_store.specs.NotedStates.{NotedStates}
use Rattle.aptpl_store.specs.Spelling.{IsSavable, SpellsState}

-- the body spells no state (own)
abbrev pub IsNoState : List ℕ → Type 0
IsNoState body = (state : PrState) → SpellsState state body → ⊥

-- The noted states are those that exactly these bodies of a store's side spell, one for each of these extents. They can
-- be spelled, no save is in doubt, and this is the last state (own).
pub record HasRead (notes : NotedStates) (last : PrState) (heading : Heading) (extents : List (ℕ × ℕ))
    (bodies : List (List ℕ)) : Type 0 where
  pub kind : heading.kind ≡ Store
  pub states : All IsSavable notes.states
  pub none_torn : notes.torn ≡ None
  pub counted : length extents ≡ length notes.states
  pub last_is : last ≡ latest notes.states
  pub spelled : bodies ≡ state_bodies notes.states

-- after these notes and this last state, these bytes of a body came, and nothing more was noted (own)
pub record IsWithinBody (noted : NotedStates) (before : PrState) (notes : NotedStates) (last : PrState) (body : List ℕ)
    (bytes : List ℕ) : Type 0 where
  pub notes_same : notes ≡ noted
  pub last_same : last ≡ before
  pub body_is : body ≡ bytes
