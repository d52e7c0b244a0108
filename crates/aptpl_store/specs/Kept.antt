-- A store as a keeper: what it has saved, and how it goes on.
use Rattle.std.specs.Prelude.{◌+◌, ℕ, List, [], ◌∷◌, ◌++◌, length, Option, None, Some, true, false}
use Rattle.vtl_base.specs.Below.{Below}
use Rattle.tape_disk.specs.Disk.{DiskState}
use Rattle.gate_journal.specs.Side.{Heading}
use Rattle.accepted_changes.specs.Core.{Core, Rules}
use Rattle.accepted_changes.specs.Device.{one_disk}
use Rattle.accepted_changes.specs.Events.{CoreMoves}
use Rattle.pr_core.specs.declared.states.PrState.{PrState}
use Rattle.pr_core.specs.Keepers.{KeeperState}
use Rattle.aptpl_store.specs.Contents.{GivesStates, latest}
use Rattle.aptpl_store.specs.State.{OpenStore}

-- A store accepts any state, and an image of it gives the states that were saved, in order; the base never changes
-- (own).
abbrev pub store_rules : Rules
store_rules = record {
  Base = Heading;
  Item = PrState;
  Image = List ℕ;
  applies = λ heading states state. true;
  gives = GivesStates;
  rebases = λ heading states other. ⊥;
}

-- the core of a store: all its states are safe, and a state whose save was in flight when the disk failed may be stored
-- (own)
abbrev pub core_with : Heading → List PrState → Option PrState → Core Heading PrState
core_with heading states None =
    record {
      base = heading;
      accepted = states;
      stored = length states;
      safe = length states;
      fault = false;
      stuck = false;
      recovering = false;
    }
core_with heading states (Some state) =
    record {
      base = heading;
      accepted = states ++ state ∷ [];
      stored = length states + 1;
      safe = length states;
      fault = true;
      stuck = false;
      recovering = false;
    }

module _ {D : Type 0} where
  -- the core of an open store (own)
  abbrev pub core_of : OpenStore D → Core Heading PrState
  core_of store = core_with store.heading store.states store.torn

  -- an open store as the state of a keeper (own)
  abbrev pub store_kept : OpenStore D → KeeperState
  store_kept store =
      record {
        saved = Some (latest store.states);
        torn = store.torn;
        failed = store.failed;
        room = Some store.room;
      }

  module _ (state : D → DiskState) where
    -- From old to new exactly these states were saved, or were being saved when the disk failed. Where the disk is
    -- honest and its images were those of the old store, each moment between has images of a store between (own).
    abbrev pub StoreMoves : OpenStore D → List PrState → OpenStore D → Type 0
    StoreMoves old made new =
        CoreMoves store_rules (one_disk state) old.disk new.disk (core_of old) (core_of new) made

    -- what a contract sees below a store: the failures of its disk, whether it is honest, and its saves; nothing opens
    -- it (own)
    abbrev pub store_below : Below (OpenStore D) PrState
    store_below =
        record {
          failures = λ store. (state store.disk).failures;
          honest = λ store. (state store.disk).honest;
          at_hand = λ store. Unit {0};
          moves = StoreMoves;
          left_alone = λ old new. Unit {0};
        }
